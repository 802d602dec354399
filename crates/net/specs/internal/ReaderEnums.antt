-- What the code's enums say, in the terms of the meanings.
use Rattle.std.specs.Prelude.{◌^◌, ◌+◌, if◌then◌else◌, ◌/◌, ◌%◌, Option, Some, None, Result}
use Rattle.reading.specs.Basics.{ℕ, zero, suc, Bool, eqb, given, List, get_or}
use Rattle.reading.specs.Reading.{Answer, fine, fault}
use Rattle.reading.specs.Refusals.{answered}
use Rattle.reading.specs.declared.refusal.Refusal.{Refusal}
use Rattle.net.specs.Net.{Colour, Guard, Net, Place, single, pair, scope, set_of, in_colour, in_guard}
use Rattle.net.specs.Reader.{width_of}
use Rattle.net.specs.declared.Read.{Read}
use Rattle.net.specs.declared.scope.Scope.{Scope}
use Rattle.net.specs.declared.PlaceSets.{PlaceSets}
use Rattle.net.specs.declared.PlaceSets.TheVariants.{One, Two}

-- the numbers below n that pass a test, a bit for each
unfoldable pub bits : (ℕ → Bool) → ℕ → ℕ
bits test zero = 0
bits test (suc n) = bits test n + (if test n then 2 ^ n else 0)

-- v is in a set of bits
abbrev pub member : ℕ → ℕ → Bool
member uses v = eqb (uses / 2 ^ v % 2) 1

-- the size of a variable's set, by tables of sizes and of sets
abbrev pub size_in : List ℕ → List ℕ → ℕ → ℕ
size_in sizes vars v = get_or sizes (get_or vars v 0) 0

-- what expressions are read over: the sets and variables of a scope, and places
abbrev pub scope_of : Scope → List Place → Net
scope_of s places = scope s.sizes.now s.vars.now places

-- a whole expression: the place after it, its measure, the variables that stand in it
abbrev pub whole : {A : Type 0} → (A → ℕ) → (ℕ → A → Bool) → A → ℕ → Read
whole measure stands a next = record { next = next; set = measure a; uses = bits (λ v. stands v a) 32 }

-- what is told of an answer: the number of a fault too
abbrev pub told : {A : Type 0} → (A → ℕ) → (ℕ → A → Bool) → Answer A → Answer Read
told measure stands (fine a next) = fine (whole measure stands a next) next
told measure stands (fault number place) = fault number place

-- what a Result tells
abbrev pub answer_of : Result Read Refusal → Answer Read
answer_of result = answered (λ r. r) (λ r. r.next) result

-- a colour tells its set, a guard nothing
abbrev pub colour_told : Net → Answer Colour → Answer Read
colour_told n answer = told (set_of n) in_colour answer

abbrev pub guard_told : Answer Guard → Answer Read
guard_told answer = told (λ g. 0) in_guard answer

-- a place by its set, or its two sets
abbrev pub place_in : PlaceSets → Place
place_in (One set) = single set
place_in (Two first second) = pair first second

-- the width of a byte's operands; none: no command
abbrev pub width_told : ℕ → Option ℕ
width_told b = given (width_of b) None λ width. Some width

-- the table's number for a byte: 255 where there is no command
abbrev pub entry_told : ℕ → ℕ
entry_told b = given (width_of b) 255 λ width. width
