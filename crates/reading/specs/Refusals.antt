-- The refusals 1 to 15: the number of each reason, and what a Result says of a file or a call.
use Rattle.std.specs.Prelude.{Result, Ok, Err}
use Rattle.reading.specs.Basics.{ℕ}
use Rattle.reading.specs.Reading.{Answer, fine, fault, Outcome, accepted, refused}
use Rattle.reading.specs.declared.refusal.Reason.{Reason}
use Rattle.reading.specs.declared.refusal.Reason.TheVariants as reason
use Rattle.reading.specs.declared.refusal.Refusal.{Refusal}

abbrev pub number_of : Reason → ℕ
number_of reason.Overlong = 1
number_of reason.CutOff = 2
number_of reason.StrayByte = 3
number_of reason.Overfull = 4
number_of reason.OutOfRange = 5
number_of reason.MixedColours = 6
number_of reason.TooDeep = 7
number_of reason.Overweight = 8
number_of reason.Doubled = 9
number_of reason.ManyVariables = 10
number_of reason.WideBinding = 11
number_of reason.WrongMarking = 12
number_of reason.RaggedList = 13
number_of reason.NoSpace = 14
number_of reason.Tail = 15

-- a whole file, or a call: what is made of its value, or the refusal's number and place
abbrev pub replied : {V A : Type 0} → (V → A) → Result V Refusal → Outcome A
replied f (Ok value) = accepted (f value)
replied f (Err r) = refused (number_of r.reason) r.place

-- a piece of a file: what is made of its value and the next place in it, or the fault's number and place
abbrev pub answered : {V A : Type 0} → (V → A) → (V → ℕ) → Result V Refusal → Answer A
answered f next (Ok value) = fine (f value) (next value)
answered f next (Err r) = fault (number_of r.reason) r.place
