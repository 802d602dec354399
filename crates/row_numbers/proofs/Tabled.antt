-- The table of row numbers and the starts of transitions, as the walk fills them. Assumes nothing.
use Rattle.std.specs.Prelude.{◌+◌, if◌then◌else◌}
use mathlib.Core.Path.{◌≡◌, refl, sym, ap, ◌∙◌, subst}
use mathlib.Core.Logic.{⊎_elim}
use mir.Val.{bool_byte}
use Prim.Native.Nat.{◌≤◌, ◌<◌, ◌-◌}
use native.Mathlib.Omega.{arith}
use native.Mathlib.Nat.{add-zero, eq-or-lt_of_le}
use native.Mathlib.Numerals.{add-one}
use lib.ListN.{set}
use lib.Seq.{get_or-set_same, get_or-set_other}
use Rattle.reading.specs.Basics.{ℕ, zero, suc, Bool, true, false, List, length, get_or, product}
use Rattle.net.specs.Net.{Net, sizes_of, transition_at}
use Rattle.net_file.specs.Limits.{Limits}
use Rattle.reading.proofs.Clash.{clash}
use Rattle.prepared.specs.internal.Prepared.{Prepared}
use Rattle.prepared.proofs.Known.{its_limits}
use Rattle.bindings.specs.Effect.{legal}
use Rattle.bindings.specs.internal.Bindings.{numbered}
use Rattle.bindings.specs.internal.Legal.{every_row}
use Rattle.bindings.specs.internal.Numbers.{digits, before}
use Rattle.bindings.proofs.Bindings.{bindings-length}
use Rattle.bindings.proofs.Digits.{bindings_at, before_next, before_all}
use Rattle.row_numbers.specs.Unfolding.{row_number}
use Rattle.row_numbers.specs.internal.Walked.{passed, takes_effect, effects, order_at, entries_at, entries, Numbers, NumbersFrom, Follows, Starts}
use Rattle.row_numbers.proofs.Walking.{passed_none, passed-most, effect_passes, effect_fails, number_passes, number_fails}
use Rattle.row_numbers.proofs.Effects.{effects_all, passed_here}
use Rattle.bindings.proofs.Legal.{legal-told, every-legal}

-- ---- one binding's effect
-- it has one where it is legal
pub effect-told : (n : Net) (t i : ℕ) {b : Bool} → b ≡ legal n (numbered n t i) → b ≡ takes_effect n t i
effect-told n t i e = e ∙ legal-told n (numbered n t i) refl

-- which counts as one
pub one_if : (b : Bool) → bool_byte b ≡ (if b then 1 else 0)
one_if true = refl
one_if false = refl

-- where every binding has a row, it has one
pub every_takes : {s plan : List ℕ} {n : Net} {t : ℕ} → Prepared s n plan → t < length n.transitions → every_row plan t ≡ true → (i : ℕ) → true ≡ takes_effect n t i
every_takes {n = n} {t = t} p lt e i = effect-told n t i (sym (every-legal p lt (digits (sizes_of n (transition_at n t)) i) e))

-- so as many have one as there are
pub effects-every : {s plan : List ℕ} {n : Net} {t : ℕ} → Prepared s n plan → t < length n.transitions → every_row plan t ≡ true → (many : ℕ) → many ≡ effects n t many
effects-every {n = n} {t = t} p lt every many = effects_all n t many (λ i less. every_takes p lt every i)

-- ---- the bindings before a transition's
before-rise : (n : Net) (t k : ℕ) → t + k ≤ length n.transitions → before n t ≤ before n (t + k)
before-rise n t zero le = rw add-zero (omega arith)
before-rise n t (suc k) le = let e : t + suc k ≡ t + k + 1 = omega arith in rw e (omega (arith, before-rise n t k (omega arith), before_next n (t + k) (omega arith)))

-- at most 65,536
before_few : (n : Net) (t : ℕ) → Limits n → t ≤ length n.transitions → before n t ≤ 65536
before_few n t limits le =
    let e : t + (length n.transitions - t) ≡ length n.transitions = omega arith in
    omega (arith, rw e at (before-rise n t (length n.transitions - t) (omega arith)), before_all n, bindings-length n, limits.space)

-- with its own too
before_fit : (n : Net) (t : ℕ) → Limits n → t < length n.transitions → before n t + product (sizes_of n (transition_at n t)) ≤ 65536
before_fit n t limits lt = omega (arith, before_next n t lt, before_few n (t + 1) limits (omega arith))

-- with all of them: those before the next transition
pub passed_then : (n : Net) {t size rows : ℕ} → t < length n.transitions → size ≡ product (sizes_of n (transition_at n t)) → rows ≡ effects n t size
    → passed n (before n t) + rows ≡ passed n (before n (t + 1))
passed_then n {t} {size} lt is e =
    let q : before n t + size ≡ before n (t + 1) = omega (arith, before_next n t lt) in
    let h : passed n (before n t + size) ≡ passed n (before n t) + effects n t size = passed_here n t lt size (omega arith) in
    omega (arith, ap (passed n) q)

-- ---- a transition with entries
-- no binding yet
pub number_none : (n : Net) (t : ℕ) (numbers : List ℕ) (base count : ℕ) → NumbersFrom n t numbers base count 0
number_none n t numbers base count = record { number = λ j lt. absurd (omega arith) }

-- one binding more, in the table from base on
pub number_turn : (n : Net) (t : ℕ) {base i count total one x : ℕ} {numbers after : List ℕ} → base + i < length numbers → total ≡ count + effects n t i
    → one ≡ (if takes_effect n t i then 1 else 0) → (total < total + one → x ≡ total) → (total + one ≤ total → x ≡ 4294967295) → after ≡ set numbers (base + i) x
    → NumbersFrom n t numbers base count i → NumbersFrom n t after base count (i + 1)
number_turn n t {base} {i} {count} {total} {one} {x} {numbers} {after} room is takes row none e was = rw e (record {
  number = λ j less. ⊎_elim
      (λ q. rw q (get_or-set_same numbers (base + i) x 0 room ∙ go (takes_effect n t i) takes))
      (λ lower. get_or-set_other numbers (base + i) (base + j) x 0 (λ q. omega arith) ∙ was.number j lower)
      (eq-or-lt_of_le (let le : j ≤ i = omega arith in le));
})
  where
    go : (b : Bool) → one ≡ (if b then 1 else 0) → x ≡ (if b then count + effects n t i else 4294967295)
    go true e = row (omega arith) ∙ is
    go false e = none (omega arith)

-- what stands before base stays
pub same-below : (numbers : List ℕ) {after : List ℕ} (base i j x : ℕ) → after ≡ set numbers (base + i) x → j < base → get_or after j 0 ≡ get_or numbers j 0
same-below numbers base i j x e lt = rw e (get_or-set_other numbers (base + i) j x 0 (λ q. omega arith))

-- numbers by counting are row numbers
pub numbers_are : (n : Net) (t : ℕ) → Limits n → t < length n.transitions → {numbers : List ℕ} {base count : ℕ} → count ≡ passed n (before n t)
    → NumbersFrom n t numbers base count (product (sizes_of n (transition_at n t))) → Numbers n t numbers base (product (sizes_of n (transition_at n t)))
numbers_are n t limits lt {count = count} is held = record {
  number = λ i inside. held.number i inside ∙ go i inside (takes_effect n t i) refl;
}
  where
    go : (i : ℕ) → i < product (sizes_of n (transition_at n t)) → (b : Bool) → takes_effect n t i ≡ b → (if b then count + effects n t i else 4294967295) ≡ row_number n (order_at n t i)
    go i inside true e =
        let here = bindings_at n t i lt inside in
        let rows : count + effects n t i ≡ passed n (before n t + i) = omega (arith, passed_here n t lt i (omega arith)) in
        rows ∙ number_passes n (before n t + i) here limits (omega (arith, effect_passes n (before n t + i) here e))
    go i inside false e =
        let here = bindings_at n t i lt inside in
        number_fails n (before n t + i) here limits (omega (arith, effect_fails n (before n t + i) here e))

-- ---- a transition of which every binding has a row
-- its rows follow each other
pub follows : {s plan : List ℕ} {n : Net} {t : ℕ} → Prepared s n plan → t < length n.transitions → every_row plan t ≡ true → Follows n t (passed n (before n t)) (product (sizes_of n (transition_at n t)))
follows {n = n} {t = t} p lt every = record {
  number = λ i inside.
      let here = bindings_at n t i lt inside in
      let rows : passed n (before n t) + i ≡ passed n (before n t + i) = omega (arith, passed_here n t lt i (omega arith), effects-every p lt every i) in
      rows ∙ number_passes n (before n t + i) here (its_limits p) (omega (arith, effect_passes n (before n t + i) here (sym (every_takes p lt every i))));
  few = λ i inside. omega (arith, passed_here n t lt i (omega arith), effects-every p lt every i, passed-most n (before n t + i), before_fit n t (its_limits p) lt);
}

-- ---- entries
at_most : (every : Bool) (size : ℕ) → entries_at every size ≤ size
at_most true size = omega arith
at_most false size = omega arith

pub entries_without : (every : Bool) (size : ℕ) → every ≡ true → 0 ≡ entries_at every size
entries_without every size h = rw h

pub entries_with : (every : Bool) (size : ℕ) → every ≡ false → size ≡ entries_at every size
entries_with every size h = rw h

module _ (n : Net) (plan : List ℕ) where
  pub entries_begin : 0 ≡ entries n plan 0
  unfolding entries
  entries_begin = refl

  pub entries_next : (t : ℕ) → entries n plan (t + 1) ≡ entries n plan t + entries_at (every_row plan t) (product (sizes_of n (transition_at n t)))
  unfolding entries
  entries_next t = rw add-one

  -- the first have no more than all
  pub entries-rise : (t k : ℕ) → entries n plan t ≤ entries n plan (t + k)
  entries-rise t zero = rw add-zero (omega arith)
  entries-rise t (suc k) = let e : t + suc k ≡ t + k + 1 = omega arith in rw e (omega (arith, entries-rise t k, entries_next (t + k)))

  -- and no more than there are bindings
  pub entries-most : (t : ℕ) → t ≤ length n.transitions → entries n plan t ≤ before n t
  entries-most zero le = omega (arith, entries_begin)
  entries-most (suc t) le =
      rw (← add-one t)
      (omega (arith, entries-most t (omega arith), entries_next t, at_most (every_row plan t) (product (sizes_of n (transition_at n t))), before_next n t (omega arith)))

-- at most 65,536 entries, and so rows, with a transition's own
pub entries_fit : {s plan : List ℕ} {n : Net} {t base : ℕ} → Prepared s n plan → t < length n.transitions → base ≡ entries n plan t → base + product (sizes_of n (transition_at n t)) ≤ 65536
entries_fit {plan = plan} {n = n} {t = t} p lt e = omega (arith, entries-most n plan t (omega arith), before_fit n t (its_limits p) lt)

pub rows_fit : {s plan : List ℕ} {n : Net} {t count : ℕ} → Prepared s n plan → t < length n.transitions → count ≡ passed n (before n t) → count + product (sizes_of n (transition_at n t)) ≤ 65536
rows_fit {n = n} {t = t} p lt e = omega (arith, passed-most n (before n t), before_fit n t (its_limits p) lt)

-- so 65,536 are enough
pub entries_few : {s plan : List ℕ} {n : Net} → Prepared s n plan → entries n plan (length n.transitions) ≤ 65536
entries_few {plan = plan} {n = n} p = omega (arith, entries-most n plan (length n.transitions) (omega arith), before_few n (length n.transitions) (its_limits p) (omega arith))

-- ---- one transition after another
-- so many transitions are numbered, with so many entries and rows; the table has so much room
pub record Numbered (n : Net) (plan : List ℕ) (room : ℕ) (starts numbers : List ℕ) (t base count : ℕ) : Type 0 where
  pub rows : count ≡ passed n (before n t)
  pub used : base ≡ entries n plan t
  pub told : entries n plan (length n.transitions) ≤ room → Starts n plan starts numbers t
  pub below : (u : ℕ) → u < t → every_row plan u ≡ false → get_or starts u 0 + product (sizes_of n (transition_at n u)) ≤ base

module _ (n : Net) (plan : List ℕ) (len : ℕ) where
  pub number_begins : (starts numbers : List ℕ) → Numbered n plan len starts numbers 0 0 0
  number_begins starts numbers = record {
    rows = sym (passed_none n);
    used = entries_begin n plan;
    told = λ enough. record { rows = λ u lt. absurd (omega arith); held = λ u lt. absurd (omega arith) };
    below = λ u lt. absurd (omega arith);
  }

  module _ {starts numbers : List ℕ} {t base count : ℕ} (start : ℕ) (was : Numbered n plan len starts numbers t base count) (room : t < length starts) where
    -- the last, or one before it
    by_last : (P : ℕ → ℕ → Type 0) → P t start → ((u : ℕ) → u < t → P u (get_or starts u 0)) → (u : ℕ) → u < t + 1 → P u (get_or (set starts t start) u 0)
    by_last P last those u lt = ⊎_elim
        (λ e. subst (λ k. P k (get_or (set starts t start) k 0)) (sym e) (subst (P t) (sym (get_or-set_same starts t start 0 room)) last))
        (λ less. subst (P u) (sym (get_or-set_other starts t u start 0 (λ q. omega arith))) (those u less))
        (eq-or-lt_of_le (let le : u ≤ t = omega arith in le))

    -- one start more
    starts_more : entries n plan (length n.transitions) ≤ len → (after : List ℕ) → ((j : ℕ) → j < base → get_or after j 0 ≡ get_or numbers j 0)
        → (every_row plan t ≡ true → Follows n t start (product (sizes_of n (transition_at n t))))
        → (every_row plan t ≡ false → Numbers n t after start (product (sizes_of n (transition_at n t)))) → Starts n plan (set starts t start) after (t + 1)
    starts_more enough after same follow number = record {
      rows = by_last (λ u x. every_row plan u ≡ true → Follows n u x (product (sizes_of n (transition_at n u)))) follow (was.told enough).rows;
      held = by_last (λ u x. every_row plan u ≡ false → Numbers n u after x (product (sizes_of n (transition_at n u)))) number
          (λ u less guarded. record {
            number = λ i inside. same (get_or starts u 0 + i) (omega (arith, was.below u less guarded)) ∙ ((was.told enough).held u less guarded).number i inside;
          });
    }

    below_more : (end : ℕ) → base ≤ end → (every_row plan t ≡ false → start + product (sizes_of n (transition_at n t)) ≤ end)
        → (u : ℕ) → u < t + 1 → every_row plan u ≡ false → get_or (set starts t start) u 0 + product (sizes_of n (transition_at n u)) ≤ end
    below_more end le last =
        by_last (λ u x. every_row plan u ≡ false → x + product (sizes_of n (transition_at n u)) ≤ end) last (λ u less guarded. omega (arith, was.below u less guarded))

  -- one more of which every binding has a row
  pub number_follows : {s starts numbers : List ℕ} {t base count size : ℕ} → Numbered n plan len starts numbers t base count
      → t < length starts → Prepared s n plan → t < length n.transitions → every_row plan t ≡ true
      → size ≡ product (sizes_of n (transition_at n t)) → Numbered n plan len (set starts t count) numbers (t + 1) base (count + size)
  number_follows {numbers = numbers} {t = t} {base = base} {count = count} {size = size} was room p lt every is = record {
    rows = rw was.rows (passed_then n lt is (effects-every p lt every size));
    used = omega (arith, was.used, entries_next n plan t, entries_without (every_row plan t) (product (sizes_of n (transition_at n t))) every);
    told = λ enough. starts_more count was room enough numbers (λ j less. refl) (λ h. rw was.rows (follows p lt every)) (λ h. clash refl every h);
    below = below_more count was room base (omega arith) (λ h. clash refl every h);
  }

  -- one more with entries
  pub number_goes : {starts numbers after : List ℕ} {t base count size total : ℕ} → Numbered n plan len starts numbers t base count → t < length n.transitions
      → t < length starts → every_row plan t ≡ false → size ≡ product (sizes_of n (transition_at n t)) → total ≡ count + effects n t size → (base + size ≤ len → Numbers n t after base size)
      → ((j : ℕ) → j < base → get_or after j 0 ≡ get_or numbers j 0) → Numbered n plan len (set starts t base) after (t + 1) (base + size) total
  number_goes {after = after} {t = t} {base = base} {size = size} was lt room guarded is total held same = record {
    rows = total ∙ rw was.rows (passed_then n lt is refl);
    used = used;
    told = λ enough. starts_more base was room enough after same (λ h. clash refl h guarded) (λ h. rw (← is) (held (fits enough)));
    below = below_more base was room (base + size) (omega arith) (λ h. omega arith);
  }
    where
      used : base + size ≡ entries n plan (t + 1)
      used = omega (arith, was.used, entries_next n plan t, entries_with (every_row plan t) (product (sizes_of n (transition_at n t))) guarded)

      fits : entries n plan (length n.transitions) ≤ len → base + size ≤ len
      fits enough =
          let e : t + 1 + (length n.transitions - (t + 1)) ≡ length n.transitions = omega arith in
          omega (arith, used, rw e at (entries-rise n plan (t + 1) (length n.transitions - (t + 1))))
