-- Orders, and firing them on the drawing.
use Rattle.std.specs.Prelude.{◌&&◌, ◌∷◌, ◌++◌, if◌then◌else◌}
use Rattle.reading.specs.Basics.{ℕ, Bool, false, List, [], map, Option, none, some, length, take, drop, ltb, eqb, given, every, byte_at, items}
use Rattle.reading.specs.Reading.{Outcome}
use Rattle.firing.specs.Firing.{Fired, fired, fire, First}
use Rattle.firing.specs.Calls.{FireCall, marking_checks, fire_checks, fire_call, first_call}
use Rattle.net.specs.Net.{Net, flat_place_count, sizes_of, transition_at}
use Rattle.net_file.specs.NetFile.{read_net}
use Rattle.bindings.specs.Effect.{Binding, bindings, effect}

-- the order of a binding: 0x60, transition, four colours, unused ones 0
abbrev pub order_of : Binding → List ℕ
order_of b = 0x60 ∷ b.transition ∷ take 4 (b.colours ++ (0 ∷ 0 ∷ 0 ∷ 0 ∷ []))

-- a colour of each variable's set, and 0 in the unused ones
unfoldable pub fits : List ℕ → List ℕ → Bool
fits [] colours = every (eqb 0) colours
fits (size ∷ sizes) [] = false
fits (size ∷ sizes) (c ∷ colours) = ltb c size && fits sizes colours

-- the binding that an order names, if any
unfoldable pub named : Net → List ℕ → Option Binding
named n order =
    let t = byte_at order 1 in
    let sizes = sizes_of n (transition_at n t) in
    if eqb (byte_at order 0) 0x60 && ltb t (length n.transitions) && fits sizes (drop 2 order)
    then some (record { transition = t; colours = take (length sizes) (drop 2 order) })
    else none

-- 1 it names no binding, 2 its guard is false, or the firing rule's answer
unfoldable pub fire_order : Net → List ℕ → List ℕ → Fired
fire_order n order m = given (named n order) (fired 1 m) λ b. given (effect n b) (fired 2 m) λ w. fire [] w m

-- the call that fires a list of orders: net file, marking, orders, lent answers
unfoldable pub fire_orders : List ℕ → List ℕ → List ℕ → List ℕ → FireCall
fire_orders s m orders answers = fire_call (λ n. fire_checks (flat_place_count n) 6 m orders answers) fire_order (read_net s) m (items 6 orders) answers

-- the call for the first order that fires: net file, marking
unfoldable pub first_order : List ℕ → List ℕ → Outcome (First (List ℕ))
first_order s m = first_call (λ n. marking_checks (flat_place_count n) m) (λ n. map order_of (bindings n)) fire_order (read_net s) m
