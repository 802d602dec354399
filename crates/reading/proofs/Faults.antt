-- Every fault that a reading tells has a number from 1 to 15 and a place within the file. Assumes nothing.
use Rattle.std.specs.Prelude.{◌+◌, ◌&&◌, ◌∷◌}
use mathlib.Core.Path.{◌≡◌, refl}
use Prim.Native.Nat.{◌≤◌}
use native.Mathlib.Omega.{arith}
use borrow.Author.Tests.{leb-true, ltb-false, eqb-true}
use Rattle.reading.specs.Basics.{ℕ, zero, suc, Bool, true, false, List, [], Option, some, none, option_map, length, ltb, leb, eqb, given, find, every, numbers_from, byte_at}
use Rattle.reading.specs.Reading.{Answer, fine, fault, ◌and_then◌, under, outcome, refused, Check, ◌unless◌, failing, Command, obey, standing, needed, Part, onward, repeat, file}
use Rattle.reading.specs.Refusals.{number_of}
use Rattle.reading.specs.internal.Reasons.{reason_of}
use Rattle.reading.specs.declared.refusal.Reason.{Reason}
use Rattle.reading.specs.declared.refusal.Reason.TheVariants as reason
use Rattle.reading.proofs.Lists.{All, end, also, all_in, every_in, in_from}
use Rattle.reading.proofs.Within.{by_test}
use Rattle.reading.proofs.Keeps.{both_true}

-- the next place, or the fault's, is within the file, and its number from 1 to 15
pub data Fits {A : Type 0} (len : ℕ) : Answer A → Type 0 where
  goes : {a : A} {next : ℕ} → next ≤ len → Fits len (fine a next)
  tells : {number place : ℕ} → 1 ≤ number → number ≤ 15 → place ≤ len → Fits len (fault number place)

pub data FitsIf {A : Type 0} (len : ℕ) : Option (Answer A) → Type 0 where
  ends : FitsIf len none
  stands : {answer : Answer A} → Fits len answer → FitsIf len (some answer)

-- so it is from every place within the file
abbrev pub From : {A : Type 0} → ℕ → (ℕ → Answer A) → Type 0
From len read = (at : ℕ) → at ≤ len → Fits len (read at)

-- and so every step of a part
abbrev pub Steps : {A : Type 0} → ℕ → Part A → Type 0
Steps {A} len part = (a : A) (at : ℕ) → at ≤ len → FitsIf len (part a at)

-- the numbers of checks, and of the checks of commands, are from 1 to 15: one test, `refl` for a written list
abbrev pub low : List Check → Bool
low [] = true
low ((number unless condition) ∷ checks) = leb 1 number && leb number 15 && low checks

abbrev pub low_all : {A : Type 0} → List (Command A) → Bool
low_all [] = true
low_all (c ∷ commands) = low c.checks && low_all commands

module _ {A : Type 0} {len : ℕ} where
  -- checks at a place, before the reading goes on
  pub checks_fit : (checks : List Check) {at : ℕ} {x : Answer A} → low checks ≡ true → at ≤ len → Fits len x → Fits len (given (failing checks) x λ number. fault number at)
  unfolding failing
  checks_fit [] e le f = f
  checks_fit ((number unless true) ∷ checks) e le f = checks_fit checks (both_true (leb 1 number && leb number 15) (low checks) e).1 le f
  checks_fit ((number unless false) ∷ checks) e le f =
      let (first, second) = both_true (leb 1 number) (leb number 15) (both_true (leb 1 number && leb number 15) (low checks) e).0 in
      tells (leb-true 1 number first) (leb-true number 15 second) le

  -- what is read where no command stands
  pub given-fits : {o : Option (Answer A)} {instead : Answer A} → FitsIf len o → Fits len instead → Fits len (given o instead λ answer. answer)
  given-fits ends f = f
  given-fits (stands g) f = g

  -- a part: what each step keeps, the whole keeps
  pub repeat-fits : (part : Part A) → Steps len part → (fuel : ℕ) (a : A) → From len (repeat part fuel a)
  unfolding repeat
  repeat-fits part steps zero a at le = goes le
  repeat-fits part steps (suc fuel) a at le = go (steps a at le) (repeat-fits part steps fuel)
    where
      go : {o : Option (Answer A)} → FitsIf len o → ((b : A) → From len (repeat part fuel b)) → Fits len (onward (repeat part fuel) a at o)
      go ends ih = goes le
      go (stands (goes {a = b} {next = next} h)) ih = ih b next h
      go (stands (tells least small h)) ih = tells least small h

  -- a refusal is a fault that was told
  pub of_refusal : {x : Answer A} {number place : ℕ} → Fits len x → outcome x ≡ refused number place → (1 ≤ number) × (number ≤ 15) × (place ≤ len)
  of_refusal (goes h) e = let z : ◌≡◌ {A = ℕ} 0 1 = cc in absurd (omega arith)
  of_refusal {number = k} {place = p} (tells {number = number} {place = place} least small h) e = let a : number ≡ k = cc in let b : place ≡ p = cc in (omega arith, omega arith, omega arith)

-- one reading after another
module _ {A B : Type 0} {len : ℕ} where
  pub then_fits : {x : Answer A} {go : A → ℕ → Answer B} → Fits len x → ((a : A) → From len (go a)) → Fits len (x and_then go)
  then_fits (goes {a = a} {next = next} h) f = f a next h
  then_fits (tells least small h) f = tells least small h

  pub under-fits : (f : A → B) {x : Answer A} → Fits len x → Fits len (under f x)
  under-fits f g = then_fits g (λ a next h. goes h)

-- commands of which one may stand at a place, or must stand there
module _ {A : Type 0} (s : List ℕ) (at : ℕ) (le : at ≤ length s) where
  obey-fits : (c : Command A) → low c.checks ≡ true → From (length s) c.goes → Fits (length s) (obey s at c)
  unfolding obey
  obey-fits c e g = by_test (Fits (length s)) (ltb (length s) (at + (1 + c.width))) (λ t. tells (omega arith) (omega arith) (omega arith))
      (λ t. checks_fit c.checks e le (g (at + (1 + c.width)) (ltb-false (length s) (at + (1 + c.width)) t)))

  pub standing-fits : {commands : List (Command A)} → low_all commands ≡ true → All (λ c. From (length s) c.goes) commands → FitsIf (length s) (standing s commands at)
  unfolding standing find
  standing-fits e end = ends
  standing-fits e (also {a = c} {l = commands} g gs) =
      let (first, others) = both_true (low c.checks) (low_all commands) e in
      by_test {A = Option (Command A)} (λ o. FitsIf {A = A} (length s) (option_map (obey s at) o)) (eqb (byte_at s at) c.byte)
      (λ t. stands (obey-fits c first g)) (λ t. standing-fits others gs)

  pub needed-fits : {commands : List (Command A)} → low_all commands ≡ true → All (λ c. From (length s) c.goes) commands → Fits (length s) (needed s commands at)
  unfolding needed
  needed-fits e gs = given-fits (standing-fits e gs)
      (by_test (Fits (length s)) (ltb at (length s)) (λ t. tells (omega arith) (omega arith) le) (λ t. tells (omega arith) (omega arith) (omega arith)))

-- a whole file
pub file-fits : {A : Type 0} (opening : ℕ) (editions : List ℕ) (content : ℕ → Answer A) (closing : ℕ) (s : List ℕ) → From (length s) content → Fits (length s) (file opening editions content closing s)
unfolding file
file-fits opening editions content closing s h =
    then_fits (needed-fits s 0 (omega arith) refl (also h end)) (λ a at le.
    then_fits (needed-fits s at le refl (also (λ next more. goes more) end)) (λ b last more.
    checks_fit ((15 unless eqb last (length s)) ∷ []) refl more (goes more)))

-- the reason with such a number has that number
pub numbered : (k : ℕ) → 1 ≤ k → k ≤ 15 → number_of (reason_of k) ≡ k
unfolding every numbers_from
numbered k least small = eqb-true (number_of (reason_of k)) k
    (all_in (every_in (λ j. eqb (number_of (reason_of j)) j) (numbers_from 1 15) refl) (in_from 1 15 least (omega arith)))

-- and the reason of a reason's number is that reason
pub named : (r : Reason) → reason_of (number_of r) ≡ r
named reason.Overlong = refl
named reason.CutOff = refl
named reason.StrayByte = refl
named reason.Overfull = refl
named reason.OutOfRange = refl
named reason.MixedColours = refl
named reason.TooDeep = refl
named reason.Overweight = refl
named reason.Doubled = refl
named reason.ManyVariables = refl
named reason.WideBinding = refl
named reason.WrongMarking = refl
named reason.RaggedList = refl
named reason.NoSpace = refl
named reason.Tail = refl
