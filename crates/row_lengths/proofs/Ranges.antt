-- Values stay in their ranges: colours in their sets, ranks in their places. Assumes nothing.
use Rattle.std.specs.Prelude.{◌+◌, ◌-◌, ◌*◌, ◌&&◌, if◌then◌else◌}
use mathlib.Core.Path.{◌≡◌, refl, ap}
use Prim.Native.Nat.{◌≤◌, ◌<◌}
use native.Mathlib.Omega.{arith}
use mathlib.Core.Logic.{⊎_elim}
use native.Mathlib.Nat.{mul-le-mul_right, mul-one, suc-mul, eq-or-lt_of_le}
use borrow.Author.Tests.{ltb-true, eqb-true, eqb-false}
use Rattle.reading.specs.Basics.{ℕ, Bool, true, false, length, ltb, eqb}
use Rattle.reading.proofs.Gives.{both_first, both_second}
use Rattle.net.specs.Net.{Colour, variable, constant, successor, predecessor, one, two, Place, single, pair, Net, size_of, colours_of, set_of}
use Rattle.net.specs.Values.{colour, pair_rank}
use Rattle.net_file.specs.Formed.{Fitting, colour_formed, of_sets, expression_formed}

-- going round a set stays in it
after-fits : (size c : ℕ) → c < size → (if eqb (c + 1) size then 0 else c + 1) < size
after-fits size c lt = go (eqb (c + 1) size) refl
  where
    go : (t : Bool) → eqb (c + 1) size ≡ t → (if t then 0 else c + 1) < size
    go true e = omega arith
    go false e = ⊎_elim (λ q. absurd (eqb-false (c + 1) size e q)) (λ l. l) (eq-or-lt_of_le (let h : c + 1 ≤ size = omega arith in h))

before-fits : (size c : ℕ) → c < size → (if eqb c 0 then size - 1 else c - 1) < size
before-fits size c lt = go (eqb c 0)
  where
    go : (t : Bool) → (if t then size - 1 else c - 1) < size
    go true = omega arith
    go false = omega arith

-- a colour of each of two sets, as the rank of a pair
pub pair_below : (a b size other : ℕ) → a < size → b < other → a * other + b < size * other
pair_below a b size other lt less = omega (arith, suc-mul a other, mul-le-mul_right other lt)

-- nothing is both false and true
no : {A : Type 0} → false ≡ true → A
no e = let z : ◌≡◌ {A = ℕ} 0 1 = cc in absurd (omega arith)

module _ (n : Net) (env : ℕ → ℕ) (fits : Fitting n env) where
  -- a formed colour is a colour of its set
  pub colour-fits : (k : Colour) → colour_formed n k ≡ true → colour n env k < size_of n (set_of n k)
  unfolding colour_formed set_of colour
  colour-fits (variable v) e = fits v (ltb-true v (length n.variables) e)
  colour-fits (constant set c) e = ltb-true c (size_of n set) (both_second (ltb set (length n.sets)) (ltb c (size_of n set)) e)
  colour-fits (successor k) e = after-fits (size_of n (set_of n k)) (colour n env k) (colour-fits k e)
  colour-fits (predecessor k) e = before-fits (size_of n (set_of n k)) (colour n env k) (colour-fits k e)

  -- of a set that it is said to be of
  colour_of : (set : ℕ) (k : Colour) → colour_formed n k && eqb (set_of n k) set ≡ true → (set_of n k ≡ set) × (colour n env k < size_of n set)
  colour_of set k e =
      let s = eqb-true (set_of n k) set (both_second (colour_formed n k) (eqb (set_of n k) set) e) in
      (s, rw (ap (size_of n) s) at (colour-fits k (both_first (colour_formed n k) (eqb (set_of n k) set) e)))

  -- the rank that 0x40 names is a rank of the place
  pub one_ranks : (p : Place) (count : ℕ) (k : Colour) → expression_formed n p (one count k) ≡ true → colour n env k < colours_of n p
  unfolding expression_formed of_sets
  one_ranks (single a) count k e = rw (mul-one (size_of n a)) (colour_of a k (both_first (colour_formed n k && eqb (set_of n k) a) true e)).1
  one_ranks (pair a b) count k e = no (both_second (colour_formed n k && eqb (set_of n k) a) false e)

  pub two_ranks : (p : Place) (count : ℕ) (k l : Colour) → expression_formed n p (two count k l) ≡ true → pair_rank n env k l < colours_of n p
  unfolding expression_formed of_sets
  two_ranks (single a) count k l e = no (both_second (colour_formed n k && eqb (set_of n k) a) false e)
  two_ranks (pair a b) count k l e =
      let first = colour_formed n k && eqb (set_of n k) a in
      let second = colour_formed n l && eqb (set_of n l) b in
      let x = colour_of a k (both_first first (second && true) e) in
      let y = colour_of b l (both_first second true (both_second first (second && true) e)) in
      rw (y.0, mul-one (size_of n b)) (pair_below (colour n env k) (colour n env l) (size_of n a) (size_of n b) x.1 y.1)
