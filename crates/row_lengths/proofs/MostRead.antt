-- The most arcs of an arc expression, from what stands in the bytes: by cases on the reading. Assumes nothing.
use Rattle.std.specs.Prelude.{◌+◌, ◌-◌, min}
use mathlib.Core.Path.{◌≡◌, refl, sym, ap, ◌∙◌, subst}
use Prim.Native.Nat.{◌≤◌, ◌<◌}
use Rattle.reading.specs.Basics.{ℕ, List, length, byte_at, word_at}
use Rattle.reading.specs.Reading.{Answer, fine, fault, under}
use Rattle.net.specs.Net.{Colour, Expression, plus, minus, times, Place, single, pair, Net}
use Rattle.net.specs.Reader.{read_colour, read_expression, two_of, amount, capped}
use Rattle.evaluation.specs.internal.Evaluated.{Ranks}
use Rattle.evaluation.specs.declared.evaluate.Ranked.{Ranked}
use Rattle.net.proofs.Shut.{commands}
use Rattle.net.proofs.Colours.{deeper}
use Rattle.evaluation.proofs.Values.{obey_by, needed_by, needed_each}
use Rattle.arc_expressions.proofs.Expressions.{deeper_expression, expression_step, expression_in_lem}
use Rattle.evaluation.proofs.Weights.{joined_by, times_by, one_by, two_by, expression_past, expression_shut, expression_stray}
use Rattle.row_lengths.specs.internal.MostArcs.{of_every, of_one, most_less, most, number_at, MostTold}
use Rattle.row_lengths.specs.declared.arcs.Most.{Most}

-- ---- what the byte at a place tells of the expression that stands there: the number of a count
abbrev Numbered : List ℕ → ℕ → Answer Expression → Type 0
Numbered s at (fine e next) = (number_at s 0x41 at ≡ of_every e) × (number_at s 0x40 at ≡ of_one e)
Numbered s at (fault number place) = Unit {0}

module _ (s : List ℕ) (n : Net) (at : ℕ) where
  amount-numbered : byte_at s at ≡ 0x40 → (inner : ℕ → Answer Colour) (place : Place) (next : ℕ) → Numbered s at (amount n inner place (word_at s (at + 1)) at next)
  amount-numbered b inner (single set) next = one_by (Numbered s at) (λ k p. tt) at n inner (word_at s (at + 1)) next set (λ k end e. rw b (refl, refl))
  amount-numbered b inner (pair set other) next = two_by (Numbered s at) (λ k p. tt) at n inner (word_at s (at + 1)) next set other (λ k l more end e f. rw b (refl, refl))

  pub numbered : (place : Place) (left : ℕ) → Numbered s at (read_expression s n place left at)
  unfolding commands
  numbered place left =
      let by = obey_by (Numbered s at) (λ k p. tt) s at in
      let two = joined_by (Numbered s at) (λ k p. tt) at (deeper_expression s n place left) (at + 1) in
      rw (expression_step s n place left at) (needed_each (Numbered s at) (λ k p. tt) s at _ (
        λ e. by _ (amount-numbered e (deeper s n left) place (at + 3)),
        (
          λ e. by _ (rw e (refl, refl)),
          (
            λ e. by _ (two plus (λ a b more end f g small. rw e (refl, refl))),
            (
              λ e. by _ (two minus (λ a b more end f g small. rw e (refl, refl))),
              (λ e. by _ (times_by (Numbered s at) (λ k p. tt) at (deeper_expression s n place left) (at + 3) (word_at s (at + 1)) (λ a end f small. rw e (refl, refl))), tt),
            ),
          ),
        ),
      ))

-- ---- two expressions one after the other, and a factor times one
module _ (count : ℕ) (inner : ℕ → Answer Expression) (at next : ℕ) (p : Most) (first : MostTold count p (inner next)) where
  -- a sum
  pub sum-most : (q : Most) → MostTold count q (inner p.next)
      → MostTold count (record { arcs = min count (p.arcs + q.arcs); next = q.next }) (capped at (two_of inner plus next))
  unfolding most
  sum-most q second =
      joined_by (MostTold count (record { arcs = min count (p.arcs + q.arcs); next = q.next })) (λ k i. tt) at inner next plus
      (λ a b mid end e f small.
      let g : MostTold count p (fine a mid) = subst (MostTold count p) e first in
      let h : MostTold count q (fine b end) = subst (MostTold count q) (ap inner g.1 ∙ f) second in
      (ap (λ x. min count (x + q.arcs)) g.0 ∙ ap (λ x. min count (most count a + x)) h.0, h.1))

  -- a difference
  pub less_most : (s : List ℕ) → ((place : ℕ) → Numbered s place (inner place)) → (q : Most) → MostTold count q (inner p.next)
      → MostTold count (record { arcs = most_less count p.arcs (number_at s 0x41 next) (number_at s 0x40 p.next); next = q.next }) (capped at (two_of inner minus next))
  unfolding most
  less_most s numbers q second =
      joined_by (MostTold count (record { arcs = most_less count p.arcs (number_at s 0x41 next) (number_at s 0x40 p.next); next = q.next })) (λ k i. tt) at inner next minus
      (λ a b mid end e f small.
      let g : MostTold count p (fine a mid) = subst (MostTold count p) e first in
      let h : MostTold count q (fine b end) = subst (MostTold count q) (ap inner g.1 ∙ f) second in
      let x : Numbered s next (fine a mid) = subst (Numbered s next) e (numbers next) in
      let y : Numbered s p.next (fine b end) = subst (Numbered s p.next) (ap inner g.1 ∙ f) (numbers p.next) in (
        ap (λ m. most_less count m (number_at s 0x41 next) (number_at s 0x40 p.next)) g.0
            ∙ ap (λ o. most_less count (most count a) o (number_at s 0x40 p.next)) x.0 ∙ ap (most_less count (most count a) (of_every a)) y.1,
        h.1,
      ))

  times_most : (factor : ℕ) → MostTold count p (capped at (under (times factor) (inner next)))
  unfolding most
  times_most factor = times_by (MostTold count p) (λ k i. tt) at inner next factor (λ a end e small. subst (MostTold count p) e first)

-- ---- a count of one rank
abbrev OneMost : ℕ → Answer Expression → Type 0
OneMost count (fine e next) = most count e ≡ 1
OneMost count (fault number place) = Unit {0}

amount-most : (count : ℕ) (n : Net) (inner : ℕ → Answer Colour) (place : Place) (number at next : ℕ) → OneMost count (amount n inner place number at next)
unfolding most
amount-most count n inner (single set) number at next = one_by (OneMost count) (λ k p. tt) at n inner number next set (λ k end e. refl)
amount-most count n inner (pair set other) number at next = two_by (OneMost count) (λ k p. tt) at n inner number next set other (λ a b mid end e f. refl)

one_told : (n : Net) (env : List ℕ) (count : ℕ) (k : Ranked) (number : ℕ) (x : Answer Expression) → OneMost count x → Ranks n env number k x → MostTold count (record { arcs = 1; next = k.next }) x
one_told n env count k number (fine e next) t h = (sym t, h.0)
one_told n env count k number (fault i p) t h = tt

-- ---- by the byte that stands at a place
module _ (s : List ℕ) (n : Net) (place : Place) (left at count : ℕ) where
  -- 0x41
  pub all_most : byte_at s at ≡ 0x41 → MostTold count (record { arcs = count; next = at + 3 }) (read_expression s n place left at)
  unfolding commands most
  all_most e = rw (expression_step s n place left at) (needed_by (MostTold count (record { arcs = count; next = at + 3 })) (λ k p. tt) s at 0x41 _ e refl (refl, refl))

  -- the others, with a level left
  module _ (le : 1 ≤ left) where
    -- 0x40
    pub one_most : (env : List ℕ) (k : Ranked) → Ranks n env (word_at s (at + 1)) k (amount n (read_colour s n (left - 1)) place (word_at s (at + 1)) at (at + 3)) → byte_at s at ≡ 0x40
        → MostTold count (record { arcs = 1; next = k.next }) (read_expression s n place left at)
    unfolding commands
    one_most env k h e =
        rw (expression_in_lem s n place left at le) (needed_by (MostTold count (record { arcs = 1; next = k.next })) (λ k p. tt) s at 0x40 _ e refl
        (one_told n env count k (word_at s (at + 1)) (amount n (read_colour s n (left - 1)) place (word_at s (at + 1)) at (at + 3))
        (amount-most count n (read_colour s n (left - 1)) place (word_at s (at + 1)) at (at + 3)) h))

    module _ (r : Most) where
      -- 0x44
      pub times_told : byte_at s at ≡ 0x44 → MostTold count r (read_expression s n place (left - 1) (at + 3)) → MostTold count r (read_expression s n place left at)
      unfolding commands
      times_told e h =
          rw (expression_in_lem s n place left at le) (needed_by (MostTold count r) (λ k p. tt) s at 0x44 _ e refl
          (times_most count (read_expression s n place (left - 1)) at (at + 3) r h (word_at s (at + 1))))

      -- 0x42 and 0x43
      pub plus_told : byte_at s at ≡ 0x42 → MostTold count r (capped at (two_of (read_expression s n place (left - 1)) plus (at + 1))) → MostTold count r (read_expression s n place left at)
      unfolding commands
      plus_told e h = rw (expression_in_lem s n place left at le) (needed_by (MostTold count r) (λ k p. tt) s at 0x42 _ e refl h)

      pub minus_told : byte_at s at ≡ 0x43 → MostTold count r (capped at (two_of (read_expression s n place (left - 1)) minus (at + 1))) → MostTold count r (read_expression s n place left at)
      unfolding commands
      minus_told e h = rw (expression_in_lem s n place left at le) (needed_by (MostTold count r) (λ k p. tt) s at 0x43 _ e refl h)

  -- nothing is promised past the end, where no level is left for what is inside, and at a stray byte
  module _ (r : Most) where
    pub most_past : length s ≤ at → MostTold count r (read_expression s n place left at)
    most_past = expression_past (MostTold count r) (λ k p. tt) s n left at place

    pub most_shut : left < 1 → (byte_at s at ≡ 0x41 → ⊥) → MostTold count r (read_expression s n place left at)
    most_shut = expression_shut (MostTold count r) (λ k p. tt) s n left at place

    pub most_stray : (byte_at s at ≡ 0x40 → ⊥) → (byte_at s at ≡ 0x41 → ⊥) → (byte_at s at ≡ 0x42 → ⊥) → (byte_at s at ≡ 0x43 → ⊥) → (byte_at s at ≡ 0x44 → ⊥)
        → MostTold count r (read_expression s n place left at)
    most_stray = expression_stray (MostTold count r) (λ k p. tt) s n left at place
