-- What the reading of an arc expression tells, in the terms of the meanings.
use Rattle.std.specs.Prelude.{◌≤◌, if◌then◌else◌, Result, Ok, Err, IfOk}
use Rattle.reading.specs.Basics.{ℕ, leb}
use Rattle.reading.specs.Reading.{Answer}
use Rattle.reading.specs.declared.refusal.Refusal.{Refusal}
use Rattle.reading.specs.declared.refusal.Reason.TheVariants.{Overweight}
use Rattle.net.specs.Net.{Expression, plus, minus, ceiling, in_expression}
use Rattle.net.specs.internal.ReaderEnums.{told}
use Rattle.net.specs.declared.Read.{Read}
use Rattle.arc_expressions.specs.declared.operator.Operator.{Operator}
use Rattle.arc_expressions.specs.declared.operator.Operator.TheVariants.{Plus, Minus}

-- an arc expression tells its ceiling
abbrev pub expression_told : Answer Expression → Answer Read
expression_told answer = told ceiling in_expression answer

-- no ceiling passes 65,535
abbrev pub SmallCeiling : Result Read Refusal → Type 0
SmallCeiling result = IfOk result (λ r. r.set ≤ 65535)

-- a ceiling that may not pass 65,535 (8)
abbrev pub measured : ℕ → ℕ → ℕ → ℕ → Result Read Refusal
measured at ceiling next uses =
    if leb ceiling 65535 then Ok (record { next = next; set = ceiling; uses = uses }) else Err (record { reason = Overweight; place = at })

-- the first less the second, or their sum
abbrev pub joins : Operator → Expression → Expression → Expression
joins Plus a b = plus a b
joins Minus a b = minus a b
