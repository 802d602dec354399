-- How files are read: answers and outcomes, commands with their checks, the parts of a file.
use Rattle.std.specs.Prelude.{◌+◌, ◌-◌, ◌∷◌, if◌then◌else◌}
use Rattle.reading.specs.Basics.{ℕ, zero, suc, Bool, List, [], Option, none, some, option_map, length, ltb, eqb, given, any, find, byte_at}

-- reading a piece of a file gives a value and the next place, or a fault's number and place
pub data Answer (A : Type 0) : Type 0 where
  fine : (value : A) (next : ℕ) → Answer A
  fault : (number place : ℕ) → Answer A

-- the value and the next place go on; a fault ends the reading
infixl 12 ◌and_then◌
abbrev pub ◌and_then◌ : {A B : Type 0} → Answer A → (A → ℕ → Answer B) → Answer B
fine a next and_then go = go a next
fault number place and_then go = fault number place

-- the value under a function
abbrev pub under : {A B : Type 0} → (A → B) → Answer A → Answer B
under f answer = answer and_then λ a next. fine (f a) next

-- reading a whole file, or a call, gives a value, or a refusal's number and place
pub data Outcome (A : Type 0) : Type 0 where
  accepted : A → Outcome A
  refused : (number place : ℕ) → Outcome A

abbrev pub outcome : {A : Type 0} → Answer A → Outcome A
outcome (fine a next) = accepted a
outcome (fault number place) = refused number place

-- what is made of a refusal, and of a value
abbrev pub on : {A B : Type 0} → Outcome A → (ℕ → ℕ → B) → (A → B) → B
on (accepted a) refusal f = f a
on (refused number place) refusal f = refusal number place

-- ---- checks
-- a refusal's number, given unless a condition holds
infix 20 ◌unless◌
pub data Check : Type 0 where
  ◌unless◌ : (number : ℕ) (condition : Bool) → Check

-- the number of the first check whose condition fails
unfoldable pub failing : List Check → Option ℕ
failing [] = none
failing ((number unless condition) ∷ checks) = if condition then failing checks else some number

-- checks at a place, before the reading goes on
abbrev pub checked : {A : Type 0} → ℕ → List Check → A → ℕ → Answer A
checked at checks a next = given (failing checks) (fine a next) λ number. fault number at

-- the checks of a call: a refusal's number, and the place that it is given at; the check passes where it has no place
infix 20 ◌at?◌
pub data CallCheck : Type 0 where
  ◌at?◌ : (number : ℕ) (place : Option ℕ) → CallCheck

-- at place 0, where a condition fails
infix 20 ◌when_not◌
abbrev pub ◌when_not◌ : ℕ → Bool → CallCheck
number when_not condition = number at? (if condition then none else some 0)

-- the first check that has a place refuses, whatever else is given
unfoldable pub refusing : {A : Type 0} → List CallCheck → Outcome A → Outcome A
refusing [] otherwise = otherwise
refusing ((number at? none) ∷ checks) otherwise = refusing checks otherwise
refusing ((number at? some place) ∷ checks) otherwise = refused number place

-- a call on a net: file faults come first, then its checks
abbrev pub permitted : {Net : Type 0} → (Net → List CallCheck) → Outcome Net → Outcome Net
permitted checks read = on read refused λ net. refusing (checks net) (accepted net)

-- ---- commands
-- a command: its byte, the width of its operands, its checks in order, and how the reading goes on after the operands
pub record Command (A : Type 0) : Type 0 where
  pub byte : ℕ
  pub width : ℕ
  pub checks : List Check
  pub goes : ℕ → Answer A

abbrev pub command : {A : Type 0} → ℕ → ℕ → List Check → (ℕ → Answer A) → Command A
command byte width checks goes = record { byte = byte; width = width; checks = checks; goes = goes }

-- at a command: cut off (2), its own checks, then it goes on
unfoldable pub obey : {A : Type 0} → List ℕ → ℕ → Command A → Answer A
obey s at c =
    let next = at + (1 + c.width) in
    if ltb (length s) next then fault 2 (length s)
    else given (failing c.checks) (c.goes next) λ number. fault number at

-- the one among some commands that stands at a place, obeyed; none where none of them does
unfoldable pub standing : {A : Type 0} → List ℕ → List (Command A) → ℕ → Option (Answer A)
standing s commands at = option_map (obey s at) (find (λ c. eqb (byte_at s at) c.byte) commands)

-- one of them must stand there: else the byte is stray (3), or the file cut off (2)
unfoldable pub needed : {A : Type 0} → List ℕ → List (Command A) → ℕ → Answer A
needed s commands at =
    given (standing s commands at) (if ltb at (length s) then fault 3 at else fault 2 (length s)) λ answer. answer

-- ---- parts
-- one step of a part, from what it has read and a place: it goes on, there is a fault, or none: the part ends here
abbrev pub Part : Type 0 → Type 0
Part A = A → ℕ → Option (Answer A)

-- what a step says is done: the next step, or the end of the part
abbrev pub onward : {A : Type 0} → (A → ℕ → Answer A) → A → ℕ → Option (Answer A) → Answer A
onward go a at none = fine a at
onward go a at (some answer) = answer and_then go

-- steps until the part ends, at most as many as fuel says
unfoldable pub repeat : {A : Type 0} → Part A → ℕ → A → ℕ → Answer A
repeat part zero a at = fine a at
repeat part (suc fuel) a at = onward (repeat part fuel) a at (part a at)

-- a whole part: each step takes a byte at least, so the bytes left are fuel enough
abbrev pub whole : {A : Type 0} → List ℕ → Part A → A → ℕ → Answer A
whole s part a at = repeat part (length s - at) a at

-- a whole file: the opening command with one of some editions, the content, the end command, and nothing after it (15)
unfoldable pub file : {A : Type 0} → ℕ → List ℕ → (ℕ → Answer A) → ℕ → List ℕ → Answer A
file opening editions content closing s =
    needed s (command opening 1 ((5 unless any (eqb (byte_at s 1)) editions) ∷ []) content ∷ []) 0 and_then λ a at.
    needed s (command closing 0 [] (fine a) ∷ []) at and_then λ a end.
    checked end ((15 unless eqb end (length s)) ∷ []) a end
