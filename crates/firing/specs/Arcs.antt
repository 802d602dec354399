-- Weights written as arcs: a row has those above 0, by kind and rising flat place.
use Rattle.std.specs.Prelude.{◌≤◌, ◌<◌, ◌+◌, ◌∷◌}
use Rattle.reading.specs.Basics.{ℕ, List, [], map, ltb, eqb, given, find, keep, below}
use Rattle.firing.specs.Firing.{Weights}
-- an arc of a row: a flat place, and the weight there
pub use Rattle.firing.specs.declared.Arc.{Arc}

-- a row: its arcs by kind
pub record Row : Type 0 where
  pub takes : List Arc
  pub puts : List Arc
  pub hinders : List Arc

abbrev pub row : List Arc → List Arc → List Arc → Row
row takes puts hinders = record { takes = takes; puts = puts; hinders = hinders }

-- the weight that a row's arcs give a flat place, 0 where none is written
unfoldable pub weight_in : List Arc → ℕ → ℕ
weight_in arcs p = given (find (λ a. eqb a.place p) arcs) 0 λ a. a.weight

-- a row's weights
abbrev pub weights : Row → Weights
weights r = record { take = weight_in r.takes; put = weight_in r.puts; hinder = weight_in r.hinders }

-- ---- the row of some weights
-- a weight at each of so many flat places as arcs: by rising place, weight 0 not written
abbrev pub arcs_of : ℕ → (ℕ → ℕ) → List Arc
arcs_of places weight = keep (λ a. ltb 0 a.weight) (map (λ p. record { place = p; weight = weight p }) (below places))

-- the row of some weights
abbrev pub row_of : ℕ → Weights → Row
row_of places w = record { takes = arcs_of places w.take; puts = arcs_of places w.put; hinders = arcs_of places w.hinder }

-- ---- rows over n flat places
-- arcs by rising place, from a place on, all below n, each of a weight above 0
pub data Rising (n : ℕ) : ℕ → List Arc → Type 0 where
  none : {from : ℕ} → Rising n from []
  more : {from : ℕ} {a : Arc} {l : List Arc} → from ≤ a.place → a.place < n → 0 < a.weight → Rising n (a.place + 1) l → Rising n from (a ∷ l)

pub record Proper (n : ℕ) (r : Row) : Type 0 where
  pub takes : Rising n 0 r.takes
  pub puts : Rising n 0 r.puts
  pub hinders : Rising n 0 r.hinders
