-- What the code that goes through a sum of counts, operand after operand, promises.
use Rattle.std.specs.Prelude.{◌≡◌, ◌≤◌, ◌<◌, ◌+◌, ◌*◌, ◌∷◌}
use Rattle.reading.specs.Basics.{ℕ, List, [], length}
use Rattle.reading.specs.Reading.{fine}
use Rattle.firing.specs.declared.Arc.{Arc}
use Rattle.net.specs.Net.{Expression, Place, Net, ceiling}
use Rattle.net.specs.Reader.{read_expression}
use Rattle.net.specs.Values.{weight}
use Rattle.evaluation.specs.internal.Evaluated.{scope_in, bound, place_by}
use Rattle.sums.specs.internal.Loaded.{terms}
use Rattle.runs.specs.internal.Terms.{Laid, Terms, count_in}
use Rattle.sums.specs.declared.sum.Summed.{Summed}
use Rattle.sums.specs.declared.bound_arc.BoundArc.{BoundArc}

-- ---- operands
-- arc expressions that stand one after the other from a place on, up to where the last ends; each was read with some levels left
pub data InTurn (s : List ℕ) (n : Net) (place : Place) : List Expression → ℕ → ℕ → Type 0 where
  none : {at : ℕ} → InTurn s n place [] at at
  more : {e : Expression} {es : List Expression} {at next stop : ℕ} (left : ℕ) → left ≤ 16 → read_expression s n place left at ≡ fine e next → InTurn s n place es next stop
      → InTurn s n place (e ∷ es) at stop

-- a number of each, added up
abbrev pub together : (Expression → ℕ) → List Expression → ℕ
together f [] = 0
together f (e ∷ es) = f e + together f es

-- ---- the terms of the first of them
-- they were laid into a room's front; the others are still to come
pub record Summing (s : List ℕ) (n : Net) (place : Place) (env : List ℕ) (count : ℕ) (es : List Expression) (stop : ℕ)
    (room room' : List Arc) (many next ahead : ℕ) : Type 0 where
  pub list : List Arc
  pub others : List Expression
  pub lie : Laid list room room' many
  pub rising : Terms count 0 list
  pub turn : InTurn s n place others next stop
  pub still : length others ≡ ahead
  pub counted : (rank : ℕ) → rank < count → together (weight n (bound env) rank) es ≡ count_in list 0 rank + together (weight n (bound env) rank) others
  pub few : length list + together terms others ≤ together terms es
  pub small : together ceiling others ≤ together ceiling es

-- where so many stand at a place, none of their sums passes 65,535, and there is room for twice their terms
abbrev pub SumTold : List ℕ → Net → Place → List ℕ → ℕ → ℕ → ℕ → List Arc → List Arc → ℕ → ℕ → ℕ → Type 0
SumTold s n place env count at operands room room' many next ahead =
    (es : List Expression) (stop : ℕ) → InTurn s n place es at stop → length es ≡ operands → together ceiling es ≤ 65535
    → 2 * together terms es ≤ length room
    → Summing s n place env count es stop room room' many next ahead

-- of those that stand at a place of the file, for the ranks of the arc's place
abbrev pub SummedAt : BoundArc → ℕ → ℕ → List Arc → List Arc → Summed → Type 0
SummedAt arc at operands room room' r =
    (known : List Place) (first second : ℕ) → SumTold arc.bound.file.now (scope_in arc.bound.plan.now known) (place_by arc.entry.paired first second) arc.bound.env.now arc.entry.ranks at operands
    room room' r.many r.left.next r.left.ahead
