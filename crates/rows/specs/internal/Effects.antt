-- The arcs of a binding's effect, place by place, the slots that they need, and a row in the lent list.
use Rattle.std.specs.Prelude.{◌≡◌, ◌≤◌, ◌+◌, ◌*◌, ◌/◌, ◌∷◌, if◌then◌else◌}
use Rattle.reading.specs.Basics.{ℕ, zero, suc, List, [], map, flat_map, some, length, leb, given, below}
use Rattle.firing.specs.Arcs.{arcs_of}
use Rattle.firing.specs.declared.Arc.{Arc}
use Rattle.firing.specs.internal.RowLists.{arcs_in, row_in}
use Rattle.firing.specs.Firing.{Weights}
use Rattle.net.specs.Net.{Transition, Net, colours_of, place_at, flat_place_count, arc_on, transition_at}
use Rattle.prepared.specs.internal.Drawing.{start_of}
use Rattle.sums.specs.internal.Loaded.{rank_arcs}
use Rattle.sums.specs.internal.Slots.{expression_slots}
use Rattle.bindings.specs.Effect.{Binding, arc_weight, effect, flat_row}

-- ---- arcs
-- the slots that the arcs on a place need in the lent list, of the places below a number, of a kind, and of a row
abbrev pub place_slots : Net → Transition → ℕ → ℕ → ℕ
place_slots n t kind p = given (arc_on t.arcs kind p) 0 λ a. expression_slots (colours_of n (place_at n p)) a.expression

unfoldable pub slots_below : Net → Transition → ℕ → ℕ → ℕ
slots_below n t kind zero = 0
slots_below n t kind (suc p) = slots_below n t kind p + place_slots n t kind p

abbrev pub kind_slots : Net → Transition → ℕ → ℕ
kind_slots n t kind = slots_below n t kind (length n.places)

abbrev pub row_slots : Net → Transition → ℕ
row_slots n t = kind_slots n t 0x16 + kind_slots n t 0x17 + kind_slots n t 0x18

-- the greatest of some numbers, 0 of none
unfoldable pub greatest : List ℕ → ℕ
greatest [] = 0
greatest (a ∷ l) = if leb (greatest l) a then a else greatest l

-- the slots that the list needs: for any row, and behind it for the terms of one expression
abbrev pub room : List ℕ → Net → ℕ
room s n = greatest (map (row_slots n) n.transitions) + length s / 2

-- the arcs that a transition's arc of a kind gives the ranks of one place; of the places below a number
abbrev pub place_arcs : Net → Transition → (ℕ → ℕ) → ℕ → ℕ → List Arc
place_arcs n t env kind p = rank_arcs (start_of n p) (colours_of n (place_at n p)) (λ r. arc_weight n t env kind (record { place = p; rank = r }))

abbrev pub kind_arcs : Net → Transition → (ℕ → ℕ) → ℕ → ℕ → List Arc
kind_arcs n t env kind places = flat_map (place_arcs n t env kind) (below places)

-- ---- in the lent list
-- the takes of a binding's effect, if it has one, lie in a lent list, up to an end
pub record TakesLoaded (n : Net) (b : Binding) (list : List Arc) (end : ℕ) : Type 0 where
  pub takes : (w : Weights) → effect n b ≡ some w → arcs_in list 0 end ≡ arcs_of (flat_place_count n) w.take
  pub few : end ≤ kind_slots n (transition_at n b.transition) 0x16

-- the row of a binding's effect, if it has one, lies in a lent list, of which it takes three slots a flat place at most
pub record RowLoaded (n : Net) (b : Binding) (list : List Arc) (takes puts hinders : ℕ) : Type 0 where
  pub row : (w : Weights) → effect n b ≡ some w → row_in list takes puts hinders ≡ flat_row n w
  pub puts_after : takes ≤ puts
  pub hinders_after : puts ≤ hinders
  pub fits : hinders ≤ 3 * flat_place_count n
  pub inside : hinders ≤ row_slots n (transition_at n b.transition)
