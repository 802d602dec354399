-- The bytes of the rows, where no row of a transition has more arcs than so many; and the loop that adds the bounds up. Assumes nothing.
use Rattle.std.specs.Prelude.{◌+◌, ◌*◌, ◌∷◌, ◌++◌, if◌then◌else◌}
use mathlib.Core.Path.{◌≡◌, refl}
use Prim.Native.Nat.{◌≤◌, ◌<◌}
use native.Mathlib.Omega.{arith}
use native.Mathlib.Nat.{zero-mul, suc-mul, mul-le-mul}
use lib.ListN.{length-append}
use Rattle.reading.specs.Basics.{ℕ, zero, suc, Bool, true, false, List, [], flat_map, Option, none, some, length, get_or, given, keep, numbers_from, below, product}
use Rattle.firing.specs.Firing.{Weights}
use Rattle.flat_file.specs.Flat.{row_bytes}
use Rattle.flat_file.proofs.Written.{length-row}
use Rattle.net.specs.Net.{Net, sizes_of, transition_at}
use Rattle.prepared.specs.internal.Drawn.{Drawn, net_of, IsDrawn}
use Rattle.bindings.specs.Effect.{effect, flat_row}
use Rattle.bindings.specs.internal.Bindings.{numbered}
use Rattle.row_lengths.specs.internal.MostRows.{MostRow}
use Rattle.row_bytes.specs.internal.RowBytes.{binding_bytes, transition_bytes}
use Rattle.row_numbers.specs.internal.Walked.{takes_effect, entries}
use Rattle.row_numbers.specs.internal.Marks.{RowsCounted}
use Rattle.row_numbers.proofs.Effects.{effects-most}
use Rattle.row_numbers.proofs.Marking.{marks_few}
use Rattle.row_bytes.proofs.RowBytes.{Measuring, measure_goes, measure_ends}

-- ---- rows of no more bytes than so many
-- what one binding gives: a row's bytes, or none
bytes_if : (n : Net) (t i row : ℕ) → ((w : Weights) → effect n (numbered n t i) ≡ some w → length (row_bytes (flat_row n w)) ≤ row)
    → length (binding_bytes n t i) ≤ (if takes_effect n t i then row else 0)
unfolding binding_bytes
bytes_if n t i row told = go (effect n (numbered n t i)) refl
  where
    go : (o : Option Weights) → effect n (numbered n t i) ≡ o → length (given o [] λ w. row_bytes (flat_row n w)) ≤ (if (given o false λ w. true) then row else 0)
    go none e = omega arith
    go (some w) e = told w e

-- and so all together
pieces_most : (f : ℕ → List ℕ) (p : ℕ → Bool) (row a m : ℕ) → ((i : ℕ) → a ≤ i → i < a + m → length (f i) ≤ (if p i then row else 0))
    → length (flat_map f (numbers_from a m)) ≤ length (keep p (numbers_from a m)) * row
unfolding flat_map numbers_from keep
pieces_most f p row a zero e = rw (zero-mul row) (omega arith)
pieces_most f p row a (suc m) e = go (p a) (e a (omega arith) (omega arith)) (pieces_most f p row (a + 1) m (λ i h k. e i (omega arith) (omega arith)))
  where
    rest : List ℕ
    rest = flat_map f (numbers_from (a + 1) m)

    kept : List ℕ
    kept = keep p (numbers_from (a + 1) m)

    go : (b : Bool) → length (f a) ≤ (if b then row else 0) → length rest ≤ length kept * row → length (f a ++ rest) ≤ length (if b then a ∷ kept else kept) * row
    go true h ih = omega (arith, length-append (f a) rest, suc-mul (length kept) row)
    go false h ih = omega (arith, length-append (f a) rest)

-- so many rows of so many bytes at most
pub product-most : (rows row : ℕ) → rows ≤ 65536 → row ≤ 31456801 → rows * row ≤ 2100000000000
product-most rows row h k = omega (arith, mul-le-mul h k)

-- ---- what is known of the net
module _ {drawing : Drawn} {counts : List ℕ} (ready : IsDrawn drawing.file drawing.plan) (counted : RowsCounted (net_of drawing) counts (length (net_of drawing).transitions)) {t : ℕ} (lt : t < length (net_of drawing).transitions) where
  abbrev many : ℕ
  many = product (sizes_of (net_of drawing) (transition_at (net_of drawing) t))

  -- a transition has few rows
  pub rows_few : get_or counts t 0 ≤ 65536
  rows_few = omega (arith, counted.row t lt, effects-most (net_of drawing) t many, marks_few ready {many = many} {base = entries (net_of drawing) drawing.plan t} lt refl refl)

  -- and they take no more bytes than so many of the longest
  pub transition_most : {most : ℕ} → MostRow (net_of drawing) t most → length (transition_bytes (net_of drawing) t) ≤ get_or counts t 0 * (1 + 5 * most)
  unfolding transition_bytes
  transition_most told =
      rw (counted.row t lt) (pieces_most (binding_bytes (net_of drawing) t) (takes_effect (net_of drawing) t) _ 0 many (λ i a b. bytes_if (net_of drawing) t i _ (λ w e. omega (
        arith,
        length-row (flat_row (net_of drawing) w),
        told i w (omega arith) e,
      ))))

-- ---- all of them
-- a total that is no less than the lengths of the pieces so far
pub record Bounding (f : ℕ → List ℕ) (many total i : ℕ) : Type 0 where
  pub exact : ℕ
  pub measured : Measuring f many 0 exact i
  pub above : exact ≤ total

module _ (f : ℕ → List ℕ) (many : ℕ) where
  module _ {total i : ℕ} (here : Bounding f many total i) where
    pub bound_goes : i < many → {more : ℕ} → length (f i) ≤ more → Bounding f many (total + more) (i + 1)
    bound_goes h le = record {
      exact = here.exact + length (f i);
      measured = measure_goes f many 0 here.measured h refl;
      above = omega (arith, here.above);
    }

    pub bound_ends : many ≤ i → length (flat_map f (below many)) ≤ total
    bound_ends h = omega (arith, here.above, measure_ends f many 0 here.measured h)
