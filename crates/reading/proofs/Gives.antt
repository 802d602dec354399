-- What is true of whatever a reading gives, piece by piece. Assumes nothing.
use Rattle.std.specs.Prelude.{◌&&◌}
use mathlib.Core.Path.{◌≡◌, refl, ap}
use native.Mathlib.Omega.{arith}
use Rattle.reading.specs.Basics.{ℕ, Bool, true, false, List, Option, some, none, given}
use Rattle.reading.specs.Reading.{Answer, fine, fault, ◌and_then◌, under, accepted, outcome, Check, checked, Command, standing, needed, Part, repeat, file}
use Rattle.reading.proofs.Lists.{All, end, also}
use Rattle.reading.proofs.Keeps.{ChecksHold, Went, checked_went, standing_went, needed_went, repeat_keeps, file_went}

-- each of two tests that both hold
pub both_first : (a b : Bool) → a && b ≡ true → a ≡ true
both_first true b e = refl
both_first false b e = e

pub both_second : (a b : Bool) → a && b ≡ true → b ≡ true
both_second true b e = e
both_second false b e = cc

-- the value, if there is one, keeps to P
pub data Gives {A : Type 0} (P : A → Type 0) : Answer A → Type 0 where
  gives : {a : A} {next : ℕ} → P a → Gives P (fine a next)
  stops : {number place : ℕ} → Gives P (fault number place)

pub data GivesIf {A : Type 0} (P : A → Type 0) : Option (Answer A) → Type 0 where
  ends : GivesIf P none
  goes : {answer : Answer A} → Gives P answer → GivesIf P (some answer)

-- what a command goes on to, its checks passed, keeps to P
abbrev pub Leads : {A : Type 0} → (A → Type 0) → Command A → Type 0
Leads P c = ChecksHold c.checks → (next : ℕ) → Gives P (c.goes next)

-- of any value there is nothing to keep
pub anything : {A : Type 0} (x : Answer A) → Gives (λ a. Unit {0}) x
anything (fine a next) = gives tt
anything (fault number place) = stops

module _ {A : Type 0} {P : A → Type 0} where
  -- from equations, and to one
  pub to_gives : (x : Answer A) → ((a : A) (next : ℕ) → x ≡ fine a next → P a) → Gives P x
  to_gives (fine a next) h = gives (h a next refl)
  to_gives (fault number place) h = stops

  to_gives_if : (o : Option (Answer A)) → ((a : A) (next : ℕ) → o ≡ some (fine a next) → P a) → GivesIf P o
  to_gives_if none h = ends
  to_gives_if (some x) h = goes (to_gives x (λ a next e. h a next (ap some e)))

  pub of_gives : {x : Answer A} {a : A} {next : ℕ} → Gives P x → x ≡ fine a next → P a
  of_gives {a = b} (gives {a = a} p) e = let q : a ≡ b = cc in rw q at p
  of_gives stops e = let z : ◌≡◌ {A = ℕ} 0 1 = cc in absurd (omega arith)

  of_gives_if : {o : Option (Answer A)} {a : A} {next : ℕ} → GivesIf P o → o ≡ some (fine a next) → P a
  of_gives_if ends e = let z : ◌≡◌ {A = ℕ} 0 1 = cc in absurd (omega arith)
  of_gives_if {a = a} {next = next} (goes {answer = x} g) e = let q : x ≡ fine a next = cc in of_gives g q

  pub of_outcome : {x : Answer A} {a : A} → Gives P x → outcome x ≡ accepted a → P a
  of_outcome {a = b} (gives {a = a} p) e = let q : a ≡ b = cc in rw q at p
  of_outcome stops e = let z : ◌≡◌ {A = ℕ} 0 1 = cc in absurd (omega arith)

  -- checks, then a value
  pub checked_gives : (at : ℕ) (checks : List Check) (a : A) (next : ℕ) → (ChecksHold checks → P a) → Gives P (checked at checks a next)
  checked_gives at checks a next h = to_gives (checked at checks a next) (λ b last e. let (holds, is) = checked_went at checks a next e in rw is at (h holds))

  -- a part: what each step keeps, the whole keeps
  pub repeat_gives : (part : Part A) → ((a : A) (at : ℕ) → P a → GivesIf P (part a at)) → (fuel : ℕ) (a : A) (at : ℕ) → P a → Gives P (repeat part fuel a at)
  repeat_gives part steps fuel a at p = to_gives (repeat part fuel a at) (λ b next e. repeat_keeps part P (λ c d from more q f. of_gives_if (steps c from q) f) fuel at p e)

  -- commands of which one may stand at a place, with what is read where none does, or must stand there
  went : (b : A) (last : ℕ) {commands : List (Command A)} → All (Leads P) commands → All (Went b last (P b)) commands
  went b last end = end
  went b last (also h hs) = also (λ holds next e. of_gives (h holds next) e) (went b last hs)

  pub standing_gives : (s : List ℕ) (at : ℕ) {commands : List (Command A)} → All (Leads P) commands → GivesIf P (standing s commands at)
  standing_gives s at {commands} hs = to_gives_if (standing s commands at) (λ b last e. standing_went s at (went b last hs) e)

  pub given_gives : (s : List ℕ) (at : ℕ) {commands : List (Command A)} {instead : Answer A} → All (Leads P) commands → Gives P instead
      → Gives P (given (standing s commands at) instead λ answer. answer)
  given_gives s at {instead = instead} hs i = go (standing_gives s at hs)
    where
      go : {o : Option (Answer A)} → GivesIf P o → Gives P (given o instead λ answer. answer)
      go ends = i
      go (goes g) = g

  pub needed_gives : (s : List ℕ) (at : ℕ) {commands : List (Command A)} → All (Leads P) commands → Gives P (needed s commands at)
  needed_gives s at {commands} hs = to_gives (needed s commands at) (λ b last e. needed_went s at (went b last hs) e)

  -- a whole file
  pub file_gives : (opening : ℕ) (editions : List ℕ) (content : ℕ → Answer A) (closing : ℕ) (s : List ℕ) → ((start : ℕ) → Gives P (content start)) → Gives P (file opening editions content closing s)
  file_gives opening editions content closing s h = to_gives (file opening editions content closing s) (λ a last e. file_went opening editions content closing s e (λ start next f. of_gives (h start) f))

-- one reading after another
module _ {A B : Type 0} {P : A → Type 0} {Q : B → Type 0} where
  pub then_gives : {x : Answer A} {go : A → ℕ → Answer B} → Gives P x → ((a : A) (next : ℕ) → P a → Gives Q (go a next)) → Gives Q (x and_then go)
  then_gives (gives {a = a} {next = next} p) h = h a next p
  then_gives stops h = stops

  pub under_gives : (f : A → B) {x : Answer A} → Gives P x → ((a : A) → P a → Q (f a)) → Gives Q (under f x)
  under_gives f g h = then_gives g (λ a next p. gives (h a p))
