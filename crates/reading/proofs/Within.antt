-- Whatever is read whole ends past the place where it began, and within the file. Assumes nothing.
use Rattle.std.specs.Prelude.{◌+◌, ◌∷◌, if◌then◌else◌}
use mathlib.Core.Path.{◌≡◌, refl}
use mathlib.Core.Bool.{Bool, true, false}
use Prim.Native.Nat.{◌≤◌, ◌<◌}
use native.Mathlib.Omega.{arith}
use borrow.Author.Tests.{ltb-false}
use Rattle.reading.specs.Basics.{ℕ, List, [], Option, some, none, option_map, length, ltb, eqb, given, find, byte_at}
use Rattle.reading.specs.Reading.{Answer, fine, fault, ◌and_then◌, Check, failing, checked, Command, obey, standing, needed}

abbrev pub Ends : {A : Type 0} → ℕ → ℕ → Answer A → Type 0
Ends len at (fine a next) = (at < next) × (next ≤ len)
Ends len at (fault number place) = Unit {0}

abbrev pub EndsIf : {A : Type 0} → ℕ → ℕ → Option (Answer A) → Type 0
EndsIf len at none = Unit {0}
EndsIf len at (some answer) = Ends len at answer

-- from any place past the command, the reading ends well
abbrev pub Goes : {A : Type 0} → List ℕ → ℕ → Command A → Type 0
Goes s at c = (next : ℕ) → at < next → next ≤ length s → Ends (length s) at (c.goes next)

-- every command of a list goes well
abbrev pub AllGo : {A : Type 0} → List ℕ → ℕ → List (Command A) → Type 0
AllGo s at [] = Unit {0}
AllGo s at (c ∷ commands) = Goes s at c × AllGo s at commands

-- what follows by each side of a test
pub by_test : {A : Type 0} (P : A → Type 0) (t : Bool) {a b : A} → (t ≡ true → P a) → (t ≡ false → P b) → P (if t then a else b)
by_test P true f g = f refl
by_test P false f g = g refl

module _ {A : Type 0} (s : List ℕ) (at : ℕ) where
  obey_ends : (c : Command A) → Goes s at c → Ends (length s) at (obey s at c)
  unfolding obey
  obey_ends c g = by_test (Ends (length s) at) (ltb (length s) (at + (1 + c.width))) (λ e. tt)
      (λ e. go (failing c.checks) (ltb-false (length s) (at + (1 + c.width)) e))
    where
      go : (o : Option ℕ) → at + (1 + c.width) ≤ length s → Ends (length s) at (given o (c.goes (at + (1 + c.width))) λ number. fault number at)
      go none le = g (at + (1 + c.width)) (omega arith) le
      go (some k) le = tt

  pub standing_ends : (commands : List (Command A)) → AllGo s at commands → EndsIf (length s) at (standing s commands at)
  unfolding standing find
  standing_ends [] g = tt
  standing_ends (c ∷ commands) g =
      by_test {A = Option (Command A)} (λ o. EndsIf {A = A} (length s) at (option_map (obey s at) o)) (eqb (byte_at s at) c.byte) (λ e. obey_ends c g.0) (λ e. standing_ends commands g.1)

  pub needed_ends : (commands : List (Command A)) → AllGo s at commands → Ends (length s) at (needed s commands at)
  unfolding needed
  needed_ends commands g = go (standing s commands at) (standing_ends commands g)
    where
      stray : (t : Bool) → Ends {A = A} (length s) at (if t then fault 3 at else fault 2 (length s))
      stray true = tt
      stray false = tt

      go : (o : Option (Answer A)) → EndsIf (length s) at o
          → Ends (length s) at (given o (if ltb at (length s) then fault 3 at else fault 2 (length s)) λ answer. answer)
      go none e = stray (ltb at (length s))
      go (some answer) e = e

-- one reading after another, and checks at the end
pub then_ends : {A B : Type 0} (len at from : ℕ) (x : Answer A) (go : A → ℕ → Answer B) → at < from → Ends len from x
    → ((a : A) (next : ℕ) → from < next → next ≤ len → Ends len at (go a next)) → Ends len at (x and_then go)
then_ends len at from (fine a next) go lt e h = h a next e.0 e.1
then_ends len at from (fault k p) go lt e h = tt

pub checked_ends : {A : Type 0} (len at place : ℕ) (checks : List Check) (a : A) (next : ℕ) → at < next → next ≤ len → Ends len at (checked place checks a next)
checked_ends len at place checks a next lt le = go (failing checks)
  where
    go : (o : Option ℕ) → Ends len at (given o (fine a next) λ number. fault number place)
    go none = (lt, le)
    go (some k) = tt
