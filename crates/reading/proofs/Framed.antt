-- What follows one command, apart from whether it stands there; a file's first and its last command. Assumes nothing.
use Rattle.std.specs.Prelude.{◌+◌, ◌∷◌, if◌then◌else◌, Result, Ok, Err}
use mathlib.Core.Path.{◌≡◌, refl, sym, ap, ◌∙◌}
use Prim.Native.Nat.{◌≤◌, ◌<◌}
use native.Mathlib.Omega.{arith}
use native.Mathlib.Decide.{dec_lt}
use borrow.Author.Tests.{eq-eqb, ne_eqb}
use Rattle.reading.specs.Basics.{ℕ, true, false, List, [], Option, option_map, none, some, given, any, length, ltb, eqb, find, byte_at}
use Rattle.reading.specs.Reading.{Answer, fine, fault, under, ◌and_then◌, Check, ◌unless◌, failing, Command, command, obey, standing, needed}
use Rattle.reading.specs.Refusals.{answered}
use Rattle.reading.specs.declared.refusal.Refusal.{Refusal}
use Rattle.reading.specs.internal.Frame.{opened, closed, going}
use Rattle.reading.proofs.Commands.{known, past, passes, done, fails, passing, failed, other, end, needed_past, needed_stray, needs_cut, needs_fails, needs_goes}
use Rattle.reading.proofs.Lists.{any_in, any_out, one_in, not_one}

-- ---- one command, whatever follows it
module _ {A : Type 0} (go : ℕ → Answer A) where
  abbrev pub onto : Answer ℕ → Answer A
  onto answer = answer and_then λ _ next. go next

  obey_onto : (s : List ℕ) (byte width : ℕ) (checks : List Check) (at : ℕ)
      → obey s at (command byte width checks go) ≡ onto (obey s at (command byte width checks (λ next. fine next next)))
  unfolding obey
  obey_onto s byte width checks at =
      elim (ltb (length s) (at + (1 + width))) as (λ cut. (if cut then fault 2 (length s) else given (failing checks) (go (at + (1 + width))) λ number. fault number at)
      ≡ onto (if cut then fault 2 (length s) else given (failing checks) (fine (at + (1 + width)) (at + (1 + width))) λ number. fault number at)) [
        | true ↦ refl
        | false ↦ elim (failing checks) as (λ k. given k (go (at + (1 + width))) (λ number. fault number at) ≡ onto (given k (fine (at + (1 + width)) (at + (1 + width))) λ number. fault number at)) [ none ↦ refl | some k ↦ refl ]
      ]

  pub standing_onto : (s : List ℕ) (byte width : ℕ) (checks : List Check) (at : ℕ)
      → standing s (command byte width checks go ∷ []) at ≡ option_map onto (standing s (command byte width checks (λ next. fine next next) ∷ []) at)
  unfolding standing find
  standing_onto s byte width checks at =
      elim (eqb (byte_at s at) byte) as (λ here. option_map (obey s at) (if here then some (command byte width checks go) else none)
      ≡ option_map onto (option_map (obey s at) (if here then some (command byte width checks (λ next. fine next next)) else none))) [
        | true ↦ ap some (obey_onto s byte width checks at)
        | false ↦ refl
      ]

  given_onto : (s : List ℕ) (at : ℕ) (o : Option (Answer ℕ))
      → given (option_map onto o) (if ltb at (length s) then fault 3 at else fault 2 (length s)) (λ answer. answer)
      ≡ onto (given o (if ltb at (length s) then fault 3 at else fault 2 (length s)) (λ answer. answer))
  given_onto s at (some answer) = refl
  given_onto s at none = elim (ltb at (length s)) as (λ b. (if b then fault 3 at else fault 2 (length s)) ≡ onto (if b then fault 3 at else fault 2 (length s))) [ true ↦ refl | false ↦ refl ]

  pub needed_onto : (s : List ℕ) (byte width : ℕ) (checks : List Check) (at : ℕ)
      → needed s (command byte width checks go ∷ []) at ≡ onto (needed s (command byte width checks (λ next. fine next next) ∷ []) at)
  unfolding needed
  needed_onto s byte width checks at = rw (standing_onto s byte width checks at, given_onto s at (standing s (command byte width checks (λ next. fine next next) ∷ []) at))

-- the only command of a list
module _ {A : Type 0} (c : Command A) where
  only_known : known (c ∷ []) c.byte ≡ some c
  unfolding find
  only_known = rw (eq-eqb c.byte c.byte refl)

  only_other : {b : ℕ} → (b ≡ c.byte → ⊥) → known (c ∷ []) b ≡ none
  unfolding find
  only_other {b} ne = rw (ne_eqb b c.byte ne)

  -- past the end it is cut off, whichever its byte is
  only_past : (s : List ℕ) (at : ℕ) → length s ≤ at → needed s (c ∷ []) at ≡ fault 2 (length s)
  only_past s at le = elim (dec_lt 0 c.byte) [
    | yes lt ↦ needed_past s at (c ∷ []) (only_other (λ e. omega (arith, lt, e))) le
    | no none_above ↦ needs_cut s at c.byte (c ∷ []) (past s at le ∙ omega (arith, none_above)) only_known (omega arith)
  ]

-- ---- the first command
-- what follows it
going_on : {A : Type 0} (go : ℕ → Answer A) (first : Result ℕ Refusal) → onto go (going (λ next. fine next next) first) ≡ going go first
going_on go (Ok next) = refl
going_on go (Err e) = refl

pub goes_in : {A : Type 0} (s : List ℕ) (byte : ℕ) (first : Result ℕ Refusal) → opened s byte (λ next. fine next next) ≡ going (λ next. fine next next) first
    → (content : ℕ → Answer A) → opened s byte content ≡ going content first
goes_in s byte first e content = needed_onto content s byte 1 _ 0 ∙ ap (onto content) e ∙ going_on content first

-- it is cut off, a stray byte, another edition, or it goes on
module _ (s : List ℕ) (byte : ℕ) where
  abbrev first : Command ℕ
  first = command byte 1 ((5 unless any (eqb (byte_at s 1)) (1 ∷ [])) ∷ []) (λ next. fine next next)

  abbrev as_told : Answer ℕ → Type 0
  as_told x = opened s byte (λ next. fine next next) ≡ x

  pub first_past : length s < 1 → as_told (fault 2 (length s))
  first_past lt = only_past first s 0 (omega arith)

  pub first_stray : 0 < length s → (byte_at s 0 ≡ byte → ⊥) → as_told (fault 3 0)
  first_stray lt ne = needed_stray s 0 (first ∷ []) lt (other (ne_eqb (byte_at s 0) byte ne) end)

  module _ (e : byte_at s 0 ≡ byte) where
    pub first_cut : length s < 2 → as_told (fault 2 (length s))
    first_cut lt = needs_cut s 0 byte (first ∷ []) e (only_known first) lt

    pub first_edition : 2 ≤ length s → (byte_at s 1 ≡ 1 → ⊥) → as_told (fault 5 0)
    first_edition le ne = needs_fails s 0 byte (first ∷ []) e (only_known first) le (fails (any_out (byte_at s 1) (1 ∷ []) (not_one ne)))

    pub first_goes : 2 ≤ length s → byte_at s 1 ≡ 1 → as_told (fine 2 2)
    first_goes le f = needs_goes s 0 byte (first ∷ []) e (only_known first) le (passes (any_in (byte_at s 1) (1 ∷ []) (one_in f)) done)

-- ---- the last command
module _ {A : Type 0} (s : List ℕ) (byte : ℕ) (a : A) (at : ℕ) where
  -- its checks, after it
  abbrev ending : {B : Type 0} → B → Answer ℕ → Answer B
  ending b x = (x and_then λ _ next. fine b next) and_then λ b end. given (failing ((15 unless eqb end (length s)) ∷ [])) (fine b end) λ number. fault number end

  ending_same : (x : Answer ℕ) → ending a x ≡ under (λ u. a) (ending (tt {0}) x)
  ending_same (fault number place) = refl
  ending_same (fine value next) =
      elim (failing ((15 unless eqb next (length s)) ∷ [])) as (λ k. given k (fine a next) (λ number. fault number next) ≡ under (λ u. a) (given k (fine (tt {0}) next) (λ number. fault number next))) [ none ↦ refl | some k ↦ refl ]

  closed_by : {B : Type 0} (b : B) → closed s byte b at ≡ ending b (needed s (command byte 0 [] (λ next. fine next next) ∷ []) at)
  closed_by b = rw (needed_onto (fine b) s byte 0 [] at)

  told_with : (last : Result (Unit {0}) Refusal) → under (λ u. a) (answered (λ u. u) (λ u. at + 1) last) ≡ answered (λ u. a) (λ u. at + 1) last
  told_with (Ok u) = refl
  told_with (Err e) = refl

  pub goes_out : (last : Result (Unit {0}) Refusal) → closed s byte (tt {0}) at ≡ answered (λ u. u) (λ u. at + 1) last → closed s byte a at ≡ answered (λ u. a) (λ u. at + 1) last
  goes_out last e = closed_by a ∙ ending_same _ ∙ ap (under λ u. a) (sym (closed_by (tt {0})) ∙ e) ∙ told_with last

-- it is cut off, a stray byte, a tail, or nothing more
module _ (s : List ℕ) (byte : ℕ) (at : ℕ) where
  abbrev last : Command (Unit {0})
  last = command byte 0 [] (fine tt)

  pub end_cut : length s ≤ at → closed s byte (tt {0}) at ≡ fault 2 (length s)
  end_cut le = rw (only_past last s at le)

  pub end_stray : at < length s → (byte_at s at ≡ byte → ⊥) → closed s byte (tt {0}) at ≡ fault 3 at
  end_stray lt ne = rw (needed_stray s at (last ∷ []) lt (other (ne_eqb (byte_at s at) byte ne) end))

  module _ (e : byte_at s at ≡ byte) where
    pub end_tail : at + 1 < length s → closed s byte (tt {0}) at ≡ fault 15 (at + 1)
    end_tail lt = rw (needs_goes s at byte (last ∷ []) e (only_known last) (omega arith) done, failed (fails {k = 15} {checks = []} (ne_eqb (at + 1) (length s) (λ e. omega arith))))

    pub end_fine : at + 1 ≡ length s → closed s byte (tt {0}) at ≡ fine tt (at + 1)
    end_fine f = rw (needs_goes s at byte (last ∷ []) e (only_known last) (omega arith) done, passing (passes {k = 15} (eq-eqb (at + 1) (length s) f) done))
