-- What has gone on has passed its checks, and what every step of a part keeps holds of the whole part. Assumes nothing.
use Rattle.std.specs.Prelude.{◌+◌, ◌&&◌, ◌∷◌, if◌then◌else◌}
use mathlib.Core.Path.{◌≡◌, refl, ap, ◌∙◌}
use Prim.Native.Nat.{◌≤◌}
use native.Mathlib.Omega.{arith}
use borrow.Author.Tests.{ltb-false, eqb-true}
use Rattle.reading.specs.Basics.{ℕ, zero, suc, Bool, true, false, List, [], Option, some, none, option_map, length, ltb, eqb, given, any, find, byte_at}
use Rattle.reading.specs.Reading.{Answer, fine, fault, ◌and_then◌, under, accepted, outcome, Check, ◌unless◌, failing, checked, Command, command, obey, standing, needed, Part, onward, repeat, file}
use Rattle.reading.proofs.Lists.{In, All, end, also, in_any}

-- a fault is no value
pub no_value : {A C : Type 0} {k p last : ℕ} {a : A} → fault k p ≡ fine a last → C
no_value e = let z : ◌≡◌ {A = ℕ} 0 1 = cc in absurd (omega arith)

-- ---- checks
-- both of two tests hold
pub both_true : (a b : Bool) → a && b ≡ true → (a ≡ true) × (b ≡ true)
both_true true b e = (refl, e)
both_true false b e = (e, cc)

-- every condition holds
abbrev pub ChecksHold : List Check → Type 0
ChecksHold [] = Unit {0}
ChecksHold ((k unless condition) ∷ checks) = (condition ≡ true) × ChecksHold checks

-- no check fails: all hold
pub held : (checks : List Check) → failing checks ≡ none → ChecksHold checks
unfolding failing
held [] e = tt
held ((k unless true) ∷ checks) e = (refl, held checks e)
held ((k unless false) ∷ checks) e = let z : ◌≡◌ {A = ℕ} 0 1 = cc in absurd (omega arith)

-- a value after checks: they hold, and it is the value
pub checked_went : {A : Type 0} (at : ℕ) (checks : List Check) (a : A) (next : ℕ) {b : A} {last : ℕ} → checked at checks a next ≡ fine b last → ChecksHold checks × (a ≡ b)
checked_went at checks a next {b} {last} e = go (failing checks) refl e
  where
    go : (o : Option ℕ) → failing checks ≡ o → (given o (fine a next) λ number. fault number at) ≡ fine b last → ChecksHold checks × (a ≡ b)
    go none f q = (held checks f, cc)
    go (some k) f q = no_value q

-- ---- one reading after another
module _ {A B P : Type 0} where
  -- both gave a value
  pub then_went : (x : Answer A) (go : A → ℕ → Answer B) {b : B} {last : ℕ} → x and_then go ≡ fine b last
      → ((a : A) (next : ℕ) → x ≡ fine a next → go a next ≡ fine b last → P) → P
  then_went (fine a next) go e h = h a next refl e
  then_went (fault k p) go e h = no_value e

  pub under_went : (f : A → B) (x : Answer A) {b : B} {last : ℕ} → under f x ≡ fine b last → ((a : A) → x ≡ fine a last → f a ≡ b → P) → P
  under_went f (fine a next) e h = h a (cc) (cc)
  under_went f (fault k p) e h = no_value e

-- ---- commands
-- what follows where a command stands whole at a place, its checks hold and it goes on to a value
abbrev pub Stood : {A : Type 0} → List ℕ → ℕ → A → ℕ → Type 0 → Command A → Type 0
Stood s at b last P c = byte_at s at ≡ c.byte → at + (1 + c.width) ≤ length s → ChecksHold c.checks → c.goes (at + (1 + c.width)) ≡ fine b last → P

-- what follows of its checks and its value alone
abbrev pub Went : {A : Type 0} → A → ℕ → Type 0 → Command A → Type 0
Went b last P c = ChecksHold c.checks → (next : ℕ) → c.goes next ≡ fine b last → P

module _ {A : Type 0} (s : List ℕ) (at : ℕ) {b : A} {last : ℕ} where
  -- a command that gave a value was whole and its checks hold; so was the one of a list that stood there
  obey_stood : {P : Type 0} (c : Command A) → Stood s at b last P c → byte_at s at ≡ c.byte → obey s at c ≡ fine b last → P
  unfolding obey
  obey_stood {P} c h stands e = by_length (ltb (length s) (at + (1 + c.width))) refl e
    where
      by_checks : at + (1 + c.width) ≤ length s → (o : Option ℕ) → failing c.checks ≡ o
          → (given o (c.goes (at + (1 + c.width))) λ number. fault number at) ≡ fine b last → P
      by_checks fits none f q = h stands fits (held c.checks f) q
      by_checks fits (some k) f q = no_value q

      by_length : (t : Bool) → ltb (length s) (at + (1 + c.width)) ≡ t
          → (if t then fault 2 (length s) else given (failing c.checks) (c.goes (at + (1 + c.width))) λ number. fault number at) ≡ fine b last → P
      by_length true f q = no_value q
      by_length false f q = by_checks (ltb-false (length s) (at + (1 + c.width)) f) (failing c.checks) refl q

  pub standing_stood : {P : Type 0} {commands : List (Command A)} → All (Stood s at b last P) commands → standing s commands at ≡ some (fine b last) → P
  unfolding standing find
  standing_stood end e = let z : ◌≡◌ {A = ℕ} 0 1 = cc in absurd (omega arith)
  standing_stood {P} (also {a = c} {l = commands} h hs) e = go (eqb (byte_at s at) c.byte) refl (standing_stood hs) e
    where
      go : (t : Bool) → eqb (byte_at s at) c.byte ≡ t → (standing s commands at ≡ some (fine b last) → P)
          → option_map (obey s at) (if t then some c else find (λ d. eqb (byte_at s at) d.byte) commands) ≡ some (fine b last) → P
      go true f ih q = obey_stood c h (eqb-true (byte_at s at) c.byte f) (cc)
      go false f ih q = ih q

  pub needed_stood : {P : Type 0} {commands : List (Command A)} → All (Stood s at b last P) commands → needed s commands at ≡ fine b last → P
  unfolding needed
  needed_stood {P} {commands} hs e = go (standing s commands at) refl e
    where
      stray : (t : Bool) → ◌≡◌ {A = Answer A} (if t then fault 3 at else fault 2 (length s)) (fine b last) → P
      stray true q = no_value q
      stray false q = no_value q

      go : (o : Option (Answer A)) → standing s commands at ≡ o → (given o (if ltb at (length s) then fault 3 at else fault 2 (length s)) λ answer. answer) ≡ fine b last → P
      go none f q = stray (ltb at (length s)) q
      go (some answer) f q = standing_stood hs (f ∙ ap some q)

  -- where the byte and the place do not matter
  went_stood : {P : Type 0} {commands : List (Command A)} → All (Went b last P) commands → All (Stood s at b last P) commands
  went_stood end = end
  went_stood (also {a = c} h hs) = also (λ stands fits holds q. h holds (at + (1 + c.width)) q) (went_stood hs)

  pub standing_went : {P : Type 0} {commands : List (Command A)} → All (Went b last P) commands → standing s commands at ≡ some (fine b last) → P
  standing_went hs e = standing_stood (went_stood hs) e

  pub needed_went : {P : Type 0} {commands : List (Command A)} → All (Went b last P) commands → needed s commands at ≡ fine b last → P
  needed_went hs e = needed_stood (went_stood hs) e

-- ---- parts
-- of the value and the place, and of the value alone
pub repeat_keeps_at : {A : Type 0} (part : Part A) (P : A → ℕ → Type 0) → ((a b : A) (at next : ℕ) → P a at → part a at ≡ some (fine b next) → P b next)
    → (fuel : ℕ) {a b : A} (at : ℕ) {next : ℕ} → P a at → repeat part fuel a at ≡ fine b next → P b next
unfolding repeat
repeat_keeps_at part P step zero {a} {b} at {next} p e = let q : a ≡ b = cc in let r : at ≡ next = cc in rw (← q, ← r) p
repeat_keeps_at {A} part P step (suc fuel) {a} {b} at {next} p e = go (part a at) refl (λ c more q r. repeat_keeps_at part P step fuel more (step a c at more p q) r) e
  where
    go : (o : Option (Answer A)) → part a at ≡ o → ((c : A) (more : ℕ) → part a at ≡ some (fine c more) → repeat part fuel c more ≡ fine b next → P b next)
        → onward (repeat part fuel) a at o ≡ fine b next → P b next
    go none f ih q = let r : a ≡ b = cc in let t : at ≡ next = cc in rw (← r, ← t) p
    go (some (fine c more)) f ih q = ih c more f q
    go (some (fault k place)) f ih q = no_value q

pub repeat_keeps : {A : Type 0} (part : Part A) (P : A → Type 0) → ((a b : A) (at next : ℕ) → P a → part a at ≡ some (fine b next) → P b)
    → (fuel : ℕ) {a b : A} (at : ℕ) {next : ℕ} → P a → repeat part fuel a at ≡ fine b next → P b
repeat_keeps part P step fuel at p e = repeat_keeps_at part (λ a place. P a) step fuel at p e

-- ---- files
-- the first byte, an edition, the content from 2 on, and the end command behind it, the last byte
pub file_stood : {A P : Type 0} (opening : ℕ) (editions : List ℕ) (content : ℕ → Answer A) (closing : ℕ) (s : List ℕ) {a : A} {last : ℕ} → file opening editions content closing s ≡ fine a last
    → ((next : ℕ) → byte_at s 0 ≡ opening → In (byte_at s 1) editions → 2 ≤ length s → content 2 ≡ fine a next → byte_at s next ≡ closing → next + 1 ≡ length s → P) → P
unfolding file
file_stood opening editions content closing s {a} {last} e h =
    then_went (needed s (command opening 1 ((5 unless any (eqb (byte_at s 1)) editions) ∷ []) content ∷ []) 0) _ e λ b at f g.
    then_went (needed s (command closing 0 [] (fine b) ∷ []) at) _ g λ c more i j.
    needed_stood s at (also (λ closes fits ok q. needed_stood s 0 (also (λ opens long edition r.
    let (tail, k) = checked_went more ((15 unless eqb more (length s)) ∷ []) c more j in
    let l : b ≡ a = cc in
    let m : at + 1 ≡ more = cc in
    h at opens (in_any (byte_at s 1) editions edition.0) long (rw (← l) r) closes (m ∙ eqb-true more (length s) tail.0)) end) f) end) i

-- the content alone
pub file_went : {A P : Type 0} (opening : ℕ) (editions : List ℕ) (content : ℕ → Answer A) (closing : ℕ) (s : List ℕ) {a : A} {last : ℕ} → file opening editions content closing s ≡ fine a last
    → ((start next : ℕ) → content start ≡ fine a next → P) → P
file_went opening editions content closing s e h = file_stood opening editions content closing s e λ next opens edition long reads closes all. h 2 next reads

-- an accepted value was read
pub outcome_went : {A P : Type 0} (x : Answer A) {a : A} → outcome x ≡ accepted a → ((next : ℕ) → x ≡ fine a next → P) → P
outcome_went (fine a next) e h = h next (cc)
outcome_went (fault k p) e h = let z : ◌≡◌ {A = ℕ} 0 1 = cc in absurd (omega arith)
