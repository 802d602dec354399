-- What stands at a place, for any list of commands: which of them, and what its checks give. Assumes nothing.
use Rattle.std.specs.Prelude.{◌+◌, ◌∷◌}
use mathlib.Core.Path.{◌≡◌, refl, ap, ◌∙◌}
use mathlib.Core.Bool.{Bool, true, false, ◌&&◌}
use Prim.Native.Nat.{◌≤◌, ◌<◌}
use borrow.Author.Rules.{rules}
use borrow.Author.Tests.{lt-ltb, le-ltb, le-leb, lt-leb, eq-eqb, ne_eqb}
use lib.ListN.{get_or-eq_default}
use Rattle.reading.specs.Basics.{ℕ, List, [], Option, some, none, length, eqb, find, byte_at}
use Rattle.reading.specs.Reading.{fault, Check, ◌unless◌, failing, Command, obey, standing, needed}

-- the checks of a command, one after the other
pub data Passes : List Check → Type 0 where
  done : Passes []
  passes : {k : ℕ} {condition : Bool} {checks : List Check} → condition ≡ true → Passes checks → Passes ((k unless condition) ∷ checks)

pub data Fails : List Check → ℕ → Type 0 where
  fails : {k : ℕ} {condition : Bool} {checks : List Check} → condition ≡ false → Fails ((k unless condition) ∷ checks) k
  later : {k n : ℕ} {condition : Bool} {checks : List Check} → condition ≡ true → Fails checks n → Fails ((k unless condition) ∷ checks) n

pub passing : {checks : List Check} → Passes checks → failing checks ≡ none
unfolding failing
passing done = refl
passing (passes e p) = rw e (passing p)

pub failed : {checks : List Check} {k : ℕ} → Fails checks k → failing checks ≡ some k
unfolding failing
failed (fails e) = rw e
failed (later e p) = rw e (failed p)

-- no command of a list has a byte
pub data Stray {A : Type 0} (b : ℕ) : List (Command A) → Type 0 where
  end : Stray b []
  other : {c : Command A} {commands : List (Command A)} → eqb b c.byte ≡ false → Stray b commands → Stray b (c ∷ commands)

pub both_hold : (a b : Bool) → a ≡ true → b ≡ true → a && b ≡ true
both_hold a b p q = rw (p, q)

pub first_fails : (a b : Bool) → a ≡ false → a && b ≡ false
first_fails a b p = rw p

pub second_fails : (a b : Bool) → b ≡ false → a && b ≡ false
second_fails true b p = p
second_fails false b p = refl

pub yes : true ≡ true
yes = refl

-- each test from the fact that decides it, and lists of checks from their tests
pub ruleset tests = (rules, le-leb, lt-leb, lt-ltb, le-ltb, eq-eqb, ne_eqb, yes, both_hold, first_fails, second_fails, done, passes, fails, later, end, other)

-- the command of a list that has a byte
abbrev pub known : {A : Type 0} → List (Command A) → ℕ → Option (Command A)
known commands b = find (λ c. eqb b c.byte) commands

-- past the end stands the byte 0
pub past : (s : List ℕ) (at : ℕ) → length s ≤ at → byte_at s at ≡ 0
past s at le = get_or-eq_default s 0 le

pub unknown : {A : Type 0} {b : ℕ} {commands : List (Command A)} → Stray b commands → known commands b ≡ none
unfolding find
unknown end = refl
unknown (other e p) = rw e (unknown p)

module _ {A : Type 0} (s : List ℕ) (at : ℕ) where
  -- a command stands at a place where its byte is; both premises but the byte are `refl` for a written list
  pub standing_at : (commands : List (Command A)) (b : ℕ) {c : Command A} → byte_at s at ≡ b → known commands b ≡ some c → standing s commands at ≡ some (obey s at c)
  unfolding standing
  standing_at commands b {c} e f = rw (e, f)

  pub standing_none : (commands : List (Command A)) → Stray (byte_at s at) commands → standing s commands at ≡ none
  unfolding standing
  standing_none commands f = rw (unknown f)

  pub needed_at : (commands : List (Command A)) (b : ℕ) {c : Command A} → byte_at s at ≡ b → known commands b ≡ some c → needed s commands at ≡ obey s at c
  unfolding needed
  needed_at commands b e f = rw (standing_at commands b e f)

  pub needed_stray : (commands : List (Command A)) → at < length s → Stray (byte_at s at) commands → needed s commands at ≡ fault 3 at
  unfolding needed
  needed_stray commands lt f = rw (standing_none commands f, lt-ltb at (length s) lt)

  pub standing_past : (commands : List (Command A)) → known commands 0 ≡ none → length s ≤ at → standing s commands at ≡ none
  unfolding standing
  standing_past commands f le = rw (past s at le, f)

  pub needed_past : (commands : List (Command A)) → known commands 0 ≡ none → length s ≤ at → needed s commands at ≡ fault 2 (length s)
  unfolding needed
  needed_past commands f le = rw (standing_past commands f le, le-ltb at (length s) le)

  -- a command that is cut off, one whose check fails, and one that goes on
  pub obey_cut : (c : Command A) → length s < at + (1 + c.width) → obey s at c ≡ fault 2 (length s)
  unfolding obey
  obey_cut c lt = rw (lt-ltb (length s) (at + (1 + c.width)) lt)

  pub obey_fails : (c : Command A) (k : ℕ) → at + (1 + c.width) ≤ length s → Fails c.checks k → obey s at c ≡ fault k at
  unfolding obey
  obey_fails c k le f = rw (le-ltb (length s) (at + (1 + c.width)) le, failed f)

  pub obey_goes : (c : Command A) → at + (1 + c.width) ≤ length s → Passes c.checks → obey s at c ≡ c.goes (at + (1 + c.width))
  unfolding obey
  obey_goes c le f = rw (le-ltb (length s) (at + (1 + c.width)) le, passing f)

-- both in one: a list of commands at a place where the byte of one of them is
module _ {A : Type 0} (s : List ℕ) (at b : ℕ) (commands : List (Command A)) {c : Command A} (stands : byte_at s at ≡ b) (is : known commands b ≡ some c) where
  pub stands_cut : length s < at + (1 + c.width) → standing s commands at ≡ some (fault 2 (length s))
  stands_cut lt = standing_at s at commands b stands is ∙ ap some (obey_cut s at c lt)

  pub stands_fails : {k : ℕ} → at + (1 + c.width) ≤ length s → Fails c.checks k → standing s commands at ≡ some (fault k at)
  stands_fails {k} le f = standing_at s at commands b stands is ∙ ap some (obey_fails s at c k le f)

  pub stands_goes : at + (1 + c.width) ≤ length s → Passes c.checks → standing s commands at ≡ some (c.goes (at + (1 + c.width)))
  stands_goes le f = standing_at s at commands b stands is ∙ ap some (obey_goes s at c le f)

  pub needs_cut : length s < at + (1 + c.width) → needed s commands at ≡ fault 2 (length s)
  needs_cut lt = needed_at s at commands b stands is ∙ obey_cut s at c lt

  pub needs_fails : {k : ℕ} → at + (1 + c.width) ≤ length s → Fails c.checks k → needed s commands at ≡ fault k at
  needs_fails {k} le f = needed_at s at commands b stands is ∙ obey_fails s at c k le f

  pub needs_goes : at + (1 + c.width) ≤ length s → Passes c.checks → needed s commands at ≡ c.goes (at + (1 + c.width))
  needs_goes le f = needed_at s at commands b stands is ∙ obey_goes s at c le f
