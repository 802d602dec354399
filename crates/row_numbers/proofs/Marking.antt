-- Marks as the bits of words: what setting one changes, and the marks of all bindings. Assumes nothing.
use Rattle.std.specs.Prelude.{◌+◌, ◌/◌, ◌%◌, ◌||◌, ◌&&◌, if◌then◌else◌}
use mathlib.Core.Path.{◌≡◌, refl, sym, ap, ◌∙◌, subst}
use mathlib.Core.Bool.{or-false, and-true, and-false}
use mathlib.Core.Logic.{⊎_elim}
use Prim.Native.Nat.{◌-◌, ◌^◌, ◌<◌, ◌≤◌, max}
use native.Mathlib.Nat.{one-mul, mod-lt, div-eq_of_lt, eq-or-lt_of_le}
use native.Mathlib.Decide.{dec_lt}
use native.Mathlib.Omega.{arith}
use borrow.Author.Tests.{eq-eqb, ne_eqb, eqb-true, eqb-false}
use lib.Bits.{bit_or, or_step, or_shr, shifted_even}
use lib.Dec.{lit<}
use lib.ListN.{set}
use lib.Pow.{low, shl-shr, pow-lt, pow-add, pow_pos}
use lib.Seq.{get_or-set_same, get_or-set_other}
use Rattle.reading.specs.Basics.{ℕ, zero, suc, Bool, true, false, eqb, List, length, get_or, replicate, product}
use Rattle.net.specs.Net.{Net, sizes_of, transition_at}
use Rattle.net.specs.internal.ReaderEnums.{member}
use Rattle.reading.proofs.Clash.{clash}
use Rattle.prepared.specs.internal.Prepared.{Prepared}
use Rattle.bindings.specs.internal.Legal.{every_row}
use Rattle.row_numbers.specs.internal.Walked.{takes_effect, effects, entries}
use Rattle.row_numbers.specs.internal.Marks.{mark_at, has_row, Blank, BindingsMarked, Marked, RowsCounted}
use Rattle.row_numbers.proofs.Tabled.{every_takes, effects-every, entries_begin, entries_next, entries-rise, entries_fit, entries_without, entries_with}

-- ---- bits
or_low : (a b : ℕ) → bit_or a b % 2 ≡ max (a % 2) (b % 2)
or_low a b = ap (λ n. n % 2) (or_step a b) ∙ low (bit_or (a / 2) (b / 2)) 1 (most (a % 2) (b % 2) (mod-lt a (lit< tt)) (mod-lt b (lit< tt)))
  where
    most : (x y : ℕ) → x < 2 → y < 2 → max x y < 2
    most x y p q = omega arith

or_one : (x y : ℕ) → x < 2 → y < 2 → eqb (max x y) 1 ≡ (eqb x 1 || eqb y 1)
or_one zero zero p q = refl
or_one zero (suc zero) p q = refl
or_one (suc zero) zero p q = refl
or_one (suc zero) (suc zero) p q = refl
or_one zero (suc (suc y)) p q = absurd (omega arith)
or_one (suc zero) (suc (suc y)) p q = absurd (omega arith)
or_one (suc (suc x)) y p q = absurd (omega arith)

-- a member of either of two sets
member_or : (a b w : ℕ) → member (bit_or a b) w ≡ (member a w || member b w)
member_or a b w =
    ap (λ n. eqb (n % 2) 1) (or_shr a b w) ∙ ap (λ n. eqb n 1) (or_low (a / 2 ^ w) (b / 2 ^ w))
    ∙ or_one (a / 2 ^ w % 2) (b / 2 ^ w % 2) (mod-lt (a / 2 ^ w) (lit< tt)) (mod-lt (b / 2 ^ w) (lit< tt))

-- the set of v alone has v and nothing else
member_single : (v w : ℕ) → member (2 ^ v) w ≡ eqb w v
member_single v w = go (dec_lt w v)
  where
    above : v < w → member (2 ^ v) w ≡ false
    above h = ap (λ n. eqb (n % 2) 1) (div-eq_of_lt (pow-lt h))

    below : (d : ℕ) → member (2 ^ (suc d + w)) w ≡ false
    below d =
        ap (λ n. eqb (n / 2 ^ w % 2) 1) (pow-add 2 (suc d) w) ∙ ap (λ n. eqb (n % 2) 1) (shl-shr (2 ^ suc d) w)
        ∙ ap (λ n. eqb (n % 2) 1) (sym (one-mul (2 ^ suc d))) ∙ ap (λ n. eqb n 1) (shifted_even 1 d)

    here : member (2 ^ v) v ≡ true
    here = ap (λ n. eqb (n / 2 ^ v % 2) 1) (sym (one-mul (2 ^ v))) ∙ ap (λ n. eqb (n % 2) 1) (shl-shr 1 v)

    go : Dec (w < v) → member (2 ^ v) w ≡ eqb w v
    go (yes h) =
        let e : suc (v - w - 1) + w ≡ v = omega arith in
        subst (λ n. member (2 ^ n) w ≡ false) e (below (v - w - 1)) ∙ sym (ne_eqb w v (λ e. omega arith))
    go (no h) = ⊎_elim
        (λ e. subst (λ n. member (2 ^ v) n ≡ eqb n v) e (here ∙ sym (eq-eqb v v refl)))
        (λ l. above l ∙ sym (ne_eqb w v (λ e. omega arith)))
        (eq-or-lt_of_le (let le : v ≤ w = omega arith in le))

-- ---- marks
-- one more is set
pub mark_set : (marks : List ℕ) (k j : ℕ) → k / 32 < length marks
    → mark_at (set marks (k / 32) (bit_or (get_or marks (k / 32) 0) (2 ^ (k % 32)))) j ≡ (mark_at marks j || eqb j k)
mark_set marks k j room = go (eqb (j / 32) (k / 32)) refl
  where
    word : ℕ
    word = bit_or (get_or marks (k / 32) 0) (2 ^ (k % 32))

    same : j / 32 ≡ k / 32 → (b : Bool) → eqb j k ≡ b → eqb (j % 32) (k % 32) ≡ b
    same e true f = eq-eqb (j % 32) (k % 32) (ap (λ x. x % 32) (eqb-true j k f))
    same e false f = ne_eqb (j % 32) (k % 32) (λ q. eqb-false j k f (omega arith))

    go : (b : Bool) → eqb (j / 32) (k / 32) ≡ b → mark_at (set marks (k / 32) word) j ≡ (mark_at marks j || eqb j k)
    go true f =
        let e = eqb-true (j / 32) (k / 32) f in
        ap (λ x. member x (j % 32)) (ap (λ i. get_or (set marks (k / 32) word) i 0) e ∙ get_or-set_same marks (k / 32) word 0 room)
        ∙ member_or (get_or marks (k / 32) 0) (2 ^ (k % 32)) (j % 32)
        ∙ ap (λ b. member (get_or marks (k / 32) 0) (j % 32) || b) (member_single (k % 32) (j % 32) ∙ same e (eqb j k) refl)
        ∙ ap (λ i. member (get_or marks i 0) (j % 32) || eqb j k) (sym e)
    go false f =
        let apart = eqb-false (j / 32) (k / 32) f in
        ap (λ x. member x (j % 32)) (get_or-set_other marks (k / 32) (j / 32) word 0 apart)
        ∙ sym (ap (λ b. mark_at marks j || b) (ne_eqb j k (λ q. apart (ap (λ x. x / 32) q))) ∙ or-false (mark_at marks j))

-- none is set in words of 0
zero_at : (n i : ℕ) → ◌≡◌ {A = ℕ} (get_or (replicate n 0) i 0) 0
zero_at zero i = refl
zero_at (suc n) zero = refl
zero_at (suc n) (suc i) = zero_at n i

zero_none : (w : ℕ) → member 0 w ≡ false
zero_none w = ap (λ x. eqb (x % 2) 1) (div-eq_of_lt (pow_pos w))

pub blank_words : (n : ℕ) → Blank (replicate n 0) 0
blank_words n j le lt = ap (λ x. member x (j % 32)) (zero_at n (j / 32)) ∙ zero_none (j % 32)

-- ---- the marks of a transition
-- set for a binding that has an effect, and only for such a one
pub with-effect : (a e : Bool) {b : Bool} → true ≡ b → (a || e) ≡ (a || (e && b))
with-effect a e h = ap (λ x. a || x) (sym (and-true e) ∙ ap (λ b. e && b) h)

pub without_effect : (a e : Bool) {b : Bool} → false ≡ b → a ≡ (a || (e && b))
without_effect a e h = sym (or-false a) ∙ ap (λ x. a || x) (sym (and-false e) ∙ ap (λ b. e && b) h)

-- another number's mark stays
other : (a b : Bool) (j k : ℕ) → (j ≡ k → ⊥) → (a || (eqb j k && b)) ≡ a
other a b j k h = ap (λ x. a || (x && b)) (ne_eqb j k h) ∙ or-false a

module _ (n : Net) (t : ℕ) where
  -- no binding yet
  pub marking_none : {marks : List ℕ} {base : ℕ} → Blank marks base → BindingsMarked n t marks marks base 0
  marking_none blank = record { told = λ i lt. absurd (omega arith); same = λ j lt. refl; blank = λ j le lt. blank j (omega arith) lt }

  -- one binding more
  pub marking_goes : {was marks after : List ℕ} {base i : ℕ} → base + i < 65536 → BindingsMarked n t was marks base i
      → ((j : ℕ) → j < 65536 → mark_at after j ≡ (mark_at marks j || (eqb j (base + i) && takes_effect n t i))) → BindingsMarked n t was after base (i + 1)
  marking_goes {was} {marks} {after} {base} {i} few here set = record {
    told = λ j below. ⊎_elim
        (λ e. rw e (set (base + i) few ∙ ap (λ x. x || (eqb (base + i) (base + i) && takes_effect n t i)) (here.blank (base + i) (omega arith) few)
        ∙ ap (λ x. x && takes_effect n t i) (eq-eqb (base + i) (base + i) refl)))
        (λ less. set (base + j) (omega arith) ∙ other (mark_at marks (base + j)) (takes_effect n t i) (base + j) (base + i) (λ e. omega arith) ∙ here.told j less)
        (eq-or-lt_of_le (let le : j ≤ i = omega arith in le));
    same = λ j lt. set j (omega arith) ∙ other (mark_at marks j) (takes_effect n t i) j (base + i) (λ e. omega arith) ∙ here.same j lt;
    blank = λ j le lt. set j lt ∙ other (mark_at marks j) (takes_effect n t i) j (base + i) (λ e. omega arith) ∙ here.blank j (omega arith) lt;
  }

-- ---- one transition after another
-- so many transitions are marked and counted, with so many marks
pub record Reached (n : Net) (plan was marks rows : List ℕ) (t base : ℕ) : Type 0 where
  pub used : base ≡ entries n plan t
  pub marked : Blank was 0 → Marked n plan marks t
  pub counted : RowsCounted n rows t
  pub blank : Blank was 0 → Blank marks base

module _ (n : Net) (plan : List ℕ) where
  pub reach_begins : (marks rows : List ℕ) → Reached n plan marks marks rows 0 0
  reach_begins marks rows = record {
    used = entries_begin n plan;
    marked = λ none. record { told = λ t i lt. absurd (omega arith) };
    counted = record { row = λ t lt. absurd (omega arith) };
    blank = λ none. none;
  }

  -- one row count more
  counted_more : {rows : List ℕ} {t count : ℕ} → RowsCounted n rows t → t < length rows → count ≡ effects n t (product (sizes_of n (transition_at n t))) → RowsCounted n (set rows t count) (t + 1)
  counted_more {rows} {t} {count} was room is = record {
    row = λ u lt. ⊎_elim
        (λ e. rw e (get_or-set_same rows t count 0 room ∙ is))
        (λ less. get_or-set_other rows t u count 0 (λ q. omega arith) ∙ was.row u less)
        (eq-or-lt_of_le (let le : u ≤ t = omega arith in le));
  }

  module _ {before marks rows : List ℕ} {t base many : ℕ} (was : Reached n plan before marks rows t base) (room : t < length rows) (is : many ≡ product (sizes_of n (transition_at n t))) where
    -- one more of which every binding has a row
    pub reach_follows : {s : List ℕ} → Prepared s n plan → t < length n.transitions → every_row plan t ≡ true → Reached n plan before marks (set rows t many) (t + 1) base
    reach_follows p less without = record {
      used = omega (arith, was.used, entries_next n plan t, entries_without (every_row plan t) (product (sizes_of n (transition_at n t))) without);
      marked = λ none. record {
        told = λ u i lt guarded inside. ⊎_elim
            (λ e. clash (ap (every_row plan) (sym e)) without guarded)
            (λ less. (was.marked none).told u i less guarded inside)
            (eq-or-lt_of_le (let le : u ≤ t = omega arith in le));
      };
      counted = counted_more was.counted room (effects-every p less without many ∙ ap (effects n t) is);
      blank = was.blank;
    }

    -- one more with marks
    pub reach_goes : {after : List ℕ} {count : ℕ} → every_row plan t ≡ false → count ≡ effects n t many → (Blank marks base → BindingsMarked n t marks after base many)
        → Reached n plan before after (set rows t count) (t + 1) (base + many)
    reach_goes {after} guarded counts marking = record {
      used = omega (arith, was.used, entries_next n plan t, entries_with (every_row plan t) (product (sizes_of n (transition_at n t))) guarded);
      marked = λ none. record {
        told = λ u i lt g inside. ⊎_elim
            (λ e. here (marking (was.blank none)) u i e inside)
            (λ less.
            let k : t ≡ u + 1 + (t - (u + 1)) = omega arith in
            let rise = rw (← k) at (entries-rise n plan (u + 1) (t - (u + 1))) in
            (marking (was.blank none)).same (entries n plan u + i) (omega (arith, was.used, entries_next n plan u, entries_with (every_row plan u) (product (sizes_of n (transition_at n u))) g))
            ∙ (was.marked none).told u i less g inside)
            (eq-or-lt_of_le (let le : u ≤ t = omega arith in le));
      };
      counted = counted_more was.counted room (counts ∙ ap (effects n t) is);
      blank = λ none. (marking (was.blank none)).blank;
    }
      where
        here : BindingsMarked n t marks after base many → (u i : ℕ) → u ≡ t → i < product (sizes_of n (transition_at n u)) → mark_at after (entries n plan u + i) ≡ takes_effect n u i
        here told u i e inside = subst (λ v. i < product (sizes_of n (transition_at n v)) → mark_at after (entries n plan v + i) ≡ takes_effect n v i) (sym e)
            (λ less. let q : entries n plan t + i ≡ base + i = omega (arith, was.used) in ap (mark_at after) q ∙ told.told i (omega arith)) inside

-- ---- reading the marks of a transition
module _ {s plan : List ℕ} {n : Net} (p : Prepared s n plan) {t many base : ℕ} (lt : t < length n.transitions)
    (is : many ≡ product (sizes_of n (transition_at n t))) (from : base ≡ entries n plan t) where
  -- its bindings stand below 65,536
  pub marks_few : base + many ≤ 65536
  marks_few = omega (arith, entries_fit p lt from)

  -- what they tell
  pub marks_told : {marks : List ℕ} → Marked n plan marks (length n.transitions) → (i : ℕ) → i < many → has_row (every_row plan t) marks (base + i) ≡ takes_effect n t i
  marks_told {marks} marked i inside = rw from (go (every_row plan t) refl)
    where
      go : (b : Bool) → every_row plan t ≡ b → (if b then true else mark_at marks (entries n plan t + i)) ≡ takes_effect n t i
      go true e = every_takes p lt e i
      go false e = marked.told t i lt e (omega arith)
