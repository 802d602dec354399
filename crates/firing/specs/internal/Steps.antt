-- Firing arc by arc: the three tests, and the change.
use Rattle.reading.specs.Basics.{ℕ, Bool, List, length, get_or, ltb, leb}
use Rattle.std.specs.Prelude.{◌≡◌, ◌≤◌, ◌<◌, [], set, ◌+◌, ◌-◌, ◌%◌, ◌&&◌, ◌∷◌}
use Rattle.firing.specs.Firing.{capacity}
use Rattle.firing.specs.Arcs.{Arc, Rising, weight_in}

-- 3: a take is above its count
abbrev pub lacking : List ℕ → Arc → Bool
lacking m a = ltb (get_or m a.place 0) a.weight

-- 4: a hinder weight is above 0 and not above its count
abbrev pub hindering : List ℕ → Arc → Bool
hindering m a = ltb 0 a.weight && leb a.weight (get_or m a.place 0)

-- 5: with the takes away and a put added, a count passes its capacity
abbrev pub spilling : List ℕ → List ℕ → List Arc → Arc → Bool
spilling caps m takes a = ltb (capacity caps a.place) (get_or m a.place 0 - weight_in takes a.place + a.weight)

-- each capacity fits a u16
abbrev pub SmallCapacities : List ℕ → Type 0
SmallCapacities caps = (p : ℕ) → capacity caps p < 65536

-- rising arcs without those in front that stand below p: no weight at p or a later place is passed
pub record Sought (arcs : List Arc) (p : ℕ) (rest : List Arc) : Type 0 where
  pub passed : (q : ℕ) → p ≤ q → weight_in arcs q ≡ weight_in rest q
  pub rises : (n : ℕ) → Rising n 0 arcs → Rising n p rest
  pub stopped : (other : Arc) → 0 < length rest → p ≤ (get_or rest 0 other).place

-- the marking after an arc, and after arc by arc, has changed the count at its place
abbrev pub changed_by : (ℕ → ℕ → ℕ) → Arc → List ℕ → List ℕ
changed_by f a m = set m a.place (f (get_or m a.place 0) a.weight)

unfoldable pub changed : (ℕ → ℕ → ℕ) → List Arc → List ℕ → List ℕ
changed f [] m = m
changed f (a ∷ l) m = changed f l (changed_by f a m)

-- a weight added to a u16
abbrev pub added : ℕ → ℕ → ℕ
added count weight = (count + weight) % 65536
