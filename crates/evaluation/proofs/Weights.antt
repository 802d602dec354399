-- Weights of arc expressions, from what stands in the bytes: by cases on the reading. Assumes nothing.
use Rattle.std.specs.Prelude.{◌+◌, ◌&&◌, ◌∷◌, if◌then◌else◌}
use mathlib.Core.Path.{◌≡◌, refl, ap}
use Prim.Native.Nat.{◌≤◌, ◌<◌, ◌*◌}
use native.Mathlib.Omega.{arith}
use native.Mathlib.Nat.{mul-le-mul_left}
use borrow.Author.Tests.{leb-true}
use Rattle.reading.specs.Basics.{ℕ, Bool, true, false, List, [], length, leb, eqb, given, byte_at, word_at}
use Rattle.reading.specs.Reading.{Answer, fine, fault, ◌and_then◌, under, ◌unless◌, failing, checked}
use Rattle.net.specs.Net.{Colour, Expression, one, two, all, plus, minus, times, Place, single, pair, Net, size_of, set_of, ceiling}
use Rattle.net.specs.Reader.{read_colour, read_expression, two_of, amount, capped}
use Rattle.net.specs.Values.{colour, pair_rank, weight}
use Rattle.evaluation.specs.internal.Evaluated.{Valued, Ranks}
use Rattle.evaluation.specs.declared.evaluate.Value.{Value}
use Rattle.net.proofs.Shut.{commands}
use Rattle.evaluation.proofs.Values.{obey_by, needed_each, past_by, checked_by}
use Rattle.arc_expressions.proofs.Expressions.{expression_step}

-- ---- no weight passes the ceiling
if_le : (t : Bool) (n : ℕ) → (if t then n else 0) ≤ n
if_le true n = omega arith
if_le false n = omega arith

pub weight_le : (n : Net) (env : ℕ → ℕ) (rank : ℕ) (e : Expression) → weight n env rank e ≤ ceiling e
unfolding weight ceiling
weight_le n env rank (one count k) = if_le (eqb (colour n env k) rank) count
weight_le n env rank (two count a b) = if_le (eqb (pair_rank n env a b) rank) count
weight_le n env rank (all count) = omega arith
weight_le n env rank (plus a b) = let i = weight_le n env rank a in let j = weight_le n env rank b in omega arith
weight_le n env rank (minus a b) = let i = weight_le n env rank a in omega arith
weight_le n env rank (times factor e) = mul-le-mul_left factor (weight_le n env rank e)

-- ---- what faults have, and what is read whole has, the reading has
module _ (P : Answer Expression → Type 0) (faults : (k p : ℕ) → P (fault k p)) (at : ℕ) where
  capped_by : (e : Expression) (end : ℕ) → (ceiling e ≤ 65535 → P (fine e end)) → P (capped at (fine e end))
  unfolding failing
  capped_by e end h = go (leb (ceiling e) 65535) refl
    where
      go : (t : Bool) → leb (ceiling e) 65535 ≡ t → P (given (failing ((8 unless t) ∷ [])) (fine e end) λ number. fault number at)
      go true i = h (leb-true (ceiling e) 65535 i)
      go false i = faults 8 at

  -- two expressions one after the other, joined
  module _ (inner : ℕ → Answer Expression) (next : ℕ) where
    pub joined_by : (join : Expression → Expression → Expression)
        → ((a b : Expression) (more end : ℕ) → inner next ≡ fine a more → inner more ≡ fine b end → ceiling (join a b) ≤ 65535 → P (fine (join a b) end))
        → P (capped at (two_of inner join next))
    joined_by join h = first (inner next) refl
      where
        second : (a : Expression) (more : ℕ) → inner next ≡ fine a more → (y : Answer Expression) → inner more ≡ y → P (capped at (under (join a) y))
        second a more e (fine b end) f = capped_by (join a b) end (h a b more end e f)
        second a more e (fault k p) f = faults k p

        first : (x : Answer Expression) → inner next ≡ x → P (capped at (x and_then λ a more. under (join a) (inner more)))
        first (fine a more) e = second a more e (inner more) refl
        first (fault k p) e = faults k p

    -- a factor times an expression
    pub times_by : (factor : ℕ) → ((a : Expression) (end : ℕ) → inner next ≡ fine a end → ceiling (times factor a) ≤ 65535 → P (fine (times factor a) end))
        → P (capped at (under (times factor) (inner next)))
    times_by factor h = first (inner next) refl
      where
        first : (x : Answer Expression) → inner next ≡ x → P (capped at (under (times factor) x))
        first (fine a end) e = capped_by (times factor a) end (h a end e)
        first (fault k p) e = faults k p

  -- a count of one colour, or of two
  module _ (n : Net) (inner : ℕ → Answer Colour) (count next : ℕ) where
    pub one_by : (set : ℕ) → ((k : Colour) (end : ℕ) → inner next ≡ fine k end → P (fine (one count k) end)) → P (amount n inner (single set) count at next)
    one_by set h = first (inner next) refl
      where
        first : (x : Answer Colour) → inner next ≡ x → P (x and_then λ k end. checked at ((6 unless eqb (set_of n k) set) ∷ []) (one count k) end)
        first (fine k end) e = checked_by P faults at _ (one count k) end (h k end e)
        first (fault k p) e = faults k p

    pub two_by : (set other : ℕ) → ((a b : Colour) (more end : ℕ) → inner next ≡ fine a more → inner more ≡ fine b end → P (fine (two count a b) end)) → P (amount n inner (pair set other) count at next)
    two_by set other h = first (inner next) refl
      where
        second : (a : Colour) (more : ℕ) → inner next ≡ fine a more → (y : Answer Colour) → inner more ≡ y
            → P (y and_then λ b end. checked at ((6 unless (eqb (set_of n a) set && eqb (set_of n b) other)) ∷ []) (two count a b) end)
        second a more e (fine b end) f = checked_by P faults at _ (two count a b) end (h a b more end e f)
        second a more e (fault k p) f = faults k p

        first : (x : Answer Colour) → inner next ≡ x
            → P (x and_then λ a more. inner more and_then λ b end. checked at ((6 unless (eqb (set_of n a) set && eqb (set_of n b) other)) ∷ []) (two count a b) end)
        first (fine a more) e = second a more e (inner more) refl
        first (fault k p) e = faults k p

-- ---- the rank of a count
module _ (s : List ℕ) (n : Net) (env : List ℕ) (left next : ℕ) (p : Value) (first : Valued n env p (read_colour s n left next)) (set other count at : ℕ) where
  -- of one colour, and of two
  pub one_ranks : Ranks n env count (record { rank = p.colour; next = p.next }) (amount n (read_colour s n left) (single set) count at next)
  unfolding weight
  one_ranks =
      one_by (Ranks n env count (record { rank = p.colour; next = p.next })) (λ k i. tt) at n (read_colour s n left) count next set
      (λ k end e. let h = rw e at first in (ap (λ (r : Value). r.next) h, λ rank. rw (ap (λ (r : Value). r.colour) h)))

  pub two_ranks : (q : Value) → Valued n env q (read_colour s n left p.next)
      → Ranks n env count (record { rank = p.colour * size_of n q.set + q.colour; next = q.next }) (amount n (read_colour s n left) (pair set other) count at next)
  unfolding weight
  two_ranks q second =
      two_by (Ranks n env count (record { rank = p.colour * size_of n q.set + q.colour; next = q.next })) (λ k i. tt) at n (read_colour s n left) count next set other
      (λ a b more end e f.
      let h = rw e at first in
      let g = rw f at (rw (ap (λ (r : Value). r.next) h) at second) in
      (ap (λ (r : Value). r.next) g, λ rank. rw (ap (λ (r : Value). r.colour) h, ap (λ (r : Value). r.colour) g, ap (λ (r : Value). r.set) g)))

-- ---- nothing is promised past the end, where no level is left for what is inside, and at a stray byte
module _ (P : Answer Expression → Type 0) (faults : (k p : ℕ) → P (fault k p)) (s : List ℕ) (n : Net) (left at : ℕ) where
  amount_shut : (place : Place) (count next : ℕ) → P (amount n (fault 7) place count at next)
  amount_shut (single set) count next = faults 7 next
  amount_shut (pair set other) count next = faults 7 next

  module _ (place : Place) where
    pub expression_past : length s ≤ at → P (read_expression s n place left at)
    unfolding commands
    expression_past le = rw (expression_step s n place left at) (past_by P faults s at _ refl le)

    pub expression_shut : left < 1 → (byte_at s at ≡ 0x41 → ⊥) → P (read_expression s n place left at)
    unfolding commands
    expression_shut lt f =
        let z : left ≡ 0 = omega arith in
        let by = obey_by P faults s at in
        rw (z, expression_step s n place 0 at) (needed_each P faults s at _ (
          λ e. by _ (amount_shut place (word_at s (at + 1)) (at + 3)),
          (
            λ e. absurd (f e),
            (
              λ e. by _ (faults 7 (at + 1)),
              (
                λ e. by _ (faults 7 (at + 1)),
                (λ e. by _ (faults 7 (at + 3)), tt),
              ),
            ),
          ),
        ))

    pub expression_stray : (byte_at s at ≡ 0x40 → ⊥) → (byte_at s at ≡ 0x41 → ⊥) → (byte_at s at ≡ 0x42 → ⊥) → (byte_at s at ≡ 0x43 → ⊥) → (byte_at s at ≡ 0x44 → ⊥) → P (read_expression s n place left at)
    expression_stray f g h i j =
        rw (expression_step s n place left at) (needed_each P faults s at _
        (λ e. absurd (f e), (λ e. absurd (g e), (λ e. absurd (h e), (λ e. absurd (i e), (λ e. absurd (j e), tt))))))
