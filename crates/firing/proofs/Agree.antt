-- The firing rule looks at the weights of the marking's own flat places, and keeps their number and the capacities. Assumes nothing.
use Rattle.std.specs.Prelude.{◌+◌, ◌-◌, ◌&&◌, if◌then◌else◌}
use mathlib.Core.Path.{◌≡◌, refl, ap, ap₂, ◌∙◌}
use Prim.Native.Nat.{◌<◌}
use native.Mathlib.Omega.{arith}
use borrow.Author.Tests.{ltb-false}
use lib.ListN.{length-map}
use Rattle.reading.specs.Basics.{ℕ, Bool, true, false, List, [], map, length, get_or, ltb, leb, below, any}
use Rattle.reading.proofs.Lists.{In, of_from, length_from, get_d_below, any_same, map_same}
use Rattle.firing.specs.Firing.{Weights, Fired, fired, lacks, hindered, capacity, moved, spills, Kept, fire}
use Rattle.firing.proofs.Rule.{none_from}

-- two weights that agree at every flat place below a number
pub record Agree (n : ℕ) (v w : Weights) : Type 0 where
  pub take : (p : ℕ) → p < n → v.take p ≡ w.take p
  pub put : (p : ℕ) → p < n → v.put p ≡ w.put p
  pub hinder : (p : ℕ) → p < n → v.hinder p ≡ w.hinder p

-- they fire alike
pub fire-same : (caps : List ℕ) (v w : Weights) (m : List ℕ) → Agree (length m) v w → fire caps v m ≡ fire caps w m
unfolding fire
fire-same caps v w m a = rw (first, second, third, counts)
  where
    under : (p : ℕ) → In p (below (length m)) → p < length m
    under p i = let h = of_from 0 (length m) i in omega arith

    move : (p : ℕ) → In p (below (length m)) → moved v m p ≡ moved w m p
    move p i = ap₂ (λ x y. get_or m p 0 - x + y) (a.take p (under p i)) (a.put p (under p i))

    first : any (lacks v m) (below (length m)) ≡ any (lacks w m) (below (length m))
    first = any_same (lacks v m) (lacks w m) (below (length m)) (λ p i. ap (λ x. ltb (get_or m p 0) x) (a.take p (under p i)))

    second : any (hindered v m) (below (length m)) ≡ any (hindered w m) (below (length m))
    second = any_same (hindered v m) (hindered w m) (below (length m)) (λ p i. ap (λ x. ltb 0 x && leb x (get_or m p 0)) (a.hinder p (under p i)))

    third : any (spills caps v m) (below (length m)) ≡ any (spills caps w m) (below (length m))
    third = any_same (spills caps v m) (spills caps w m) (below (length m)) (λ p i. ap (λ x. ltb (capacity caps p) x) (move p i))

    counts : map (moved v m) (below (length m)) ≡ map (moved w m) (below (length m))
    counts = map_same (moved v m) (moved w m) (below (length m)) move

-- ---- by cases of the answer
module _ (caps : List ℕ) (w : Weights) (m : List ℕ) where
  -- what holds of every answer holds of the rule's; where it is 0 no count passes its capacity
  pub by_answer : (P : Fired → Type 0) → P (fired 3 m) → P (fired 4 m) → P (fired 5 m)
      → (any (spills caps w m) (below (length m)) ≡ false → P (fired 0 (map (moved w m) (below (length m))))) → P (fire caps w m)
  unfolding fire
  by_answer P a b c d = go (any (lacks w m) (below (length m))) (any (hindered w m) (below (length m))) (any (spills caps w m) (below (length m))) d
    where
      go : (s t u : Bool) → (u ≡ false → P (fired 0 (map (moved w m) (below (length m)))))
          → P (if s then fired 3 m else if t then fired 4 m else if u then fired 5 m else fired 0 (map (moved w m) (below (length m))))
      go true t u f = a
      go false true u f = b
      go false false true f = c
      go false false false f = f refl

  -- the marking keeps its length
  moved_length : length (map (moved w m) (below (length m))) ≡ length m
  moved_length = length-map (below (length m)) (moved w m) ∙ length_from 0 (length m)

  pub fire-length : length (fire caps w m).marking ≡ length m
  fire-length = by_answer (λ f. length f.marking ≡ length m) refl refl refl (λ e. moved_length)

  -- the capacities are kept
  pub fire_keeps : Kept caps m → Kept caps (fire caps w m).marking
  fire_keeps k =
      by_answer (λ f. Kept caps f.marking) k k k
      (λ e p h. let lt : p < length m = omega (arith, moved_length) in
      let q = ltb-false (capacity caps p) (moved w m p) (none_from (spills caps w m) (length m) e p lt) in
      rw (get_d_below (moved w m) (length m) p lt) (omega (arith, q)))

-- without capacities they are kept where each count is a u16
pub none_kept : (m : List ℕ) → ((p : ℕ) → get_or m p 0 < 65536) → Kept [] m
none_kept m fit p h = omega (arith, fit p)
