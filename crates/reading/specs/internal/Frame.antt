-- How a file begins and ends, for any two bytes, and what the Results of reading these say.
use Rattle.std.specs.Prelude.{◌≤◌, ◌∷◌, Result, Ok, Err}
use Rattle.reading.specs.Basics.{ℕ, List, [], length, eqb, any, byte_at}
use Rattle.reading.specs.Reading.{Answer, fine, fault, ◌and_then◌, ◌unless◌, checked, command, needed}
use Rattle.reading.specs.Refusals.{number_of}
use Rattle.reading.specs.declared.refusal.Refusal.{Refusal}

-- a file's opening command with edition 1, and its end with nothing after it, as `file` has them
abbrev pub opened : {A : Type 0} → List ℕ → ℕ → (ℕ → Answer A) → Answer A
opened s byte content = needed s (command byte 1 ((5 unless any (eqb (byte_at s 1)) (1 ∷ [])) ∷ []) content ∷ []) 0

abbrev pub closed : {A : Type 0} → List ℕ → ℕ → A → ℕ → Answer A
closed s byte a at = needed s (command byte 0 [] (fine a) ∷ []) at and_then λ a end. checked end ((15 unless eqb end (length s)) ∷ []) a end

-- what follows at the place up to which a file was read
abbrev pub going : {A : Type 0} → (ℕ → Answer A) → Result ℕ Refusal → Answer A
going go (Ok next) = go next
going go (Err e) = fault (number_of e.reason) e.place

-- the opening command takes two bytes
abbrev pub OpenRoom : ℕ → Result ℕ Refusal → Type 0
OpenRoom len (Ok next) = (next ≤ len) × (next ≤ 2)
OpenRoom len (Err e) = Unit {0}
