-- Where the flat places of a net's places begin. Assumes nothing.
use Rattle.std.specs.Prelude.{◌+◌, ◌∷◌}
use mathlib.Core.Path.{◌≡◌}
use Prim.Native.Nat.{◌≤◌, ◌<◌}
use native.Mathlib.Omega.{arith}
use native.Mathlib.Numerals.{add-one}
use Rattle.reading.specs.Basics.{ℕ, zero, suc, List, [], map, length, get_or, take, sum}
use Rattle.net.specs.Net.{Net, single, colours_of, place_at, flat_place_count}
use Rattle.prepared.specs.internal.Drawing.{start_of}

-- a place's flat places begin where the place's before it end
start_in_lem : (n : Net) (l : List _) (p : ℕ) → p < length l → sum (map (colours_of n) (take (suc p) l)) ≡ sum (map (colours_of n) (take p l)) + colours_of n (get_or l p (single 0))
start_in_lem n [] p h = absurd (omega arith)
start_in_lem n (a ∷ l) zero h = omega arith
start_in_lem n (a ∷ l) (suc p) h = let e = start_in_lem n l p (omega arith) in omega arith

-- the same, of a net's places
pub start_next : (n : Net) (p : ℕ) → p < length n.places → start_of n (p + 1) ≡ start_of n p + colours_of n (place_at n p)
start_next n p h = rw (add-one p) (start_in_lem n n.places p h)

-- none passes their number
pub start_low : (n : Net) (p : ℕ) → start_of n p ≤ flat_place_count n
start_low n p = go n.places p
  where
    go : (l : List _) (p : ℕ) → sum (map (colours_of n) (take p l)) ≤ sum (map (colours_of n) l)
    go [] zero = omega arith
    go [] (suc p) = omega arith
    go (a ∷ l) zero = omega arith
    go (a ∷ l) (suc p) = let h = go l p in omega arith
