-- The reason with a number, and the Result of an answer: no other Result tells that answer (`one_result` of `net`).
use Rattle.std.specs.Prelude.{Result, Ok, Err, if◌then◌else◌}
use Rattle.reading.specs.Basics.{ℕ, eqb}
use Rattle.reading.specs.Reading.{Answer, fine, fault}
use Rattle.reading.specs.declared.refusal.Reason.{Reason}
use Rattle.reading.specs.declared.refusal.Reason.TheVariants as reason
use Rattle.reading.specs.declared.refusal.Refusal.{Refusal}

-- the reason with a number
abbrev pub reason_of : ℕ → Reason
reason_of number =
    if eqb number 1 then reason.Overlong
    else if eqb number 2 then reason.CutOff
    else if eqb number 3 then reason.StrayByte
    else if eqb number 4 then reason.Overfull
    else if eqb number 5 then reason.OutOfRange
    else if eqb number 6 then reason.MixedColours
    else if eqb number 7 then reason.TooDeep
    else if eqb number 8 then reason.Overweight
    else if eqb number 9 then reason.Doubled
    else if eqb number 10 then reason.ManyVariables
    else if eqb number 11 then reason.WideBinding
    else if eqb number 12 then reason.WrongMarking
    else if eqb number 13 then reason.RaggedList
    else if eqb number 14 then reason.NoSpace
    else reason.Tail

-- and back: the Result of an answer
abbrev pub result_of : {A V : Type 0} → (A → ℕ → V) → Answer A → Result V Refusal
result_of f (fine value next) = Ok (f value next)
result_of f (fault number place) = Err (record { reason = reason_of number; place = place })
