-- The cases marked *, as one list, and one result: they all follow from the meanings.
use Rattle.std.specs.Prelude.{◌≡◌, refl, ◌∷◌, ◌++◌}
use Rattle.reading.specs.Basics.{ℕ, List, [], map, flat_map, filter_map, Option-elim, length, replicate, numbers_from, below, any, every, keep, find, position, same}
use Rattle.reading.specs.Reading.{accepted, refused, on, failing, refusing, obey, standing, needed, repeat, file}
use Rattle.firing.specs.Firing.{fire, run, ending, First, found, nothing, first}
use Rattle.firing.specs.Calls.{fire_call, first_call}
use Rattle.flat_file.specs.Flat.{write_flat}
use Rattle.net.specs.Net.{constant, Expression, one, all, minus, net, set_of, ceiling, in_colour, in_guard, in_expression, variables_of, binding_space}
use Rattle.net_file.specs.Examples.{two_gauges}
use Rattle.net.specs.Reader.{width_of, read_colour, read_guard, read_expression, read_guard_if}
use Rattle.net_parts.specs.Parts.{set_part, variable_part, place_part, tokens_part}
use Rattle.net_transitions.specs.Transitions.{arc_part, transition_part}
use Rattle.net_file.specs.NetFile.{read_net}
use Rattle.net.specs.Values.{colour, holds, weight}
use Rattle.bindings.specs.Effect.{choices, bindings, stands_for, flat_places, legal, effect}
use Rattle.bindings.specs.Orders.{fits, named, fire_order, fire_orders, first_order}
use Rattle.row_numbers.specs.Unfolding.{rows, unfolded, row_number, image, images, images_call, decimal, program}

pub data Case : Type 0 where
  unfolds : (net flat : List ℕ) → Case
  fires : (net marking orders answers end : List ℕ) → Case
  first_is : (net marking : List ℕ) → First (List ℕ) → Case
  image_is : (net order : List ℕ) → ℕ → Case
  weighs : (size : ℕ) → Expression → List ℕ → Case
  spans : (net : List ℕ) → ℕ → Case
  refuses : (net : List ℕ) (number place : ℕ) → Case

-- what a case says: the call, and all that it gives
abbrev pub Holds : Case → Type 0
Holds (unfolds net flat) = program net ≡ flat
Holds (fires net marking orders answers end) =
    fire_orders net marking orders (replicate (length answers) 9) ≡ record { result = accepted (length answers); marking = end; answers = answers }
Holds (first_is net marking first) = first_order net marking ≡ accepted first
Holds (image_is net order i) = images_call net order (replicate 5 9) ≡ record { result = accepted 1; out = image i }
Holds (weighs size e weights) = map (λ rank. weight (net (size ∷ []) [] [] [] []) (λ v. 0) rank e) (below size) ≡ weights
Holds (spans net space) = on (read_net net) (λ number place. 0) (λ n. binding_space n n.transitions) ≡ space
Holds (refuses net number place) = read_net net ≡ refused number place

-- every case of a list holds
abbrev pub AllHold : List Case → Type 0
AllHold [] = Unit {0}
AllHold (c ∷ l) = Holds c × AllHold l

-- all that must compute
unfoldable pub meanings : Unit {0}
unfolding flat_map filter_map Option-elim numbers_from any every keep find position same failing refusing obey standing needed repeat file fire run ending fire_call first first_call write_flat set_of ceiling in_colour in_guard in_expression variables_of width_of read_colour read_guard read_expression set_part variable_part place_part read_guard_if arc_part transition_part tokens_part read_net choices bindings stands_for colour holds weight flat_places legal effect fits named fire_order fire_orders first_order rows unfolded row_number images images_call decimal program
meanings = tt

-- the two-gauge net's flat file
abbrev pub two_gauges_flat : List ℕ
two_gauges_flat =
    0x02 ∷ 0x01 ∷ 0x50 ∷ 0x03 ∷ 0x00 ∷ 0x50 ∷ 0x00 ∷ 0x00 ∷ 0x50 ∷ 0x00 ∷ 0x00 ∷ 0x50 ∷ 0x00 ∷ 0x00 ∷ 0x51 ∷ 0x52 ∷ 0x00 ∷ 0x00 ∷ 0x01 ∷ 0x00 ∷ 0x53 ∷ 0x03 ∷ 0x00 ∷ 0x01
    ∷ 0x00 ∷ 0x54 ∷ 0x02 ∷ 0x00 ∷ 0x02 ∷ 0x00 ∷ 0x51 ∷ 0x52 ∷ 0x01 ∷ 0x00 ∷ 0x01 ∷ 0x00 ∷ 0x53 ∷ 0x02 ∷ 0x00 ∷ 0x01 ∷ 0x00 ∷ 0x54 ∷ 0x03 ∷ 0x00 ∷ 0x02 ∷ 0x00 ∷ 0x5F ∷ []

-- transition 0 with colour c
abbrev pub order : ℕ → List ℕ
order c = 0x60 ∷ 0 ∷ c ∷ 0 ∷ 0 ∷ 0 ∷ []

-- the list
abbrev pub starred : List Case
starred =
    unfolds two_gauges two_gauges_flat
    ∷ fires two_gauges (3 ∷ 0 ∷ 0 ∷ 0 ∷ []) (order 0 ++ order 0 ++ order 0 ++ order 0) (0 ∷ 0 ∷ 0 ∷ 3 ∷ []) (0 ∷ 0 ∷ 0 ∷ 3 ∷ [])
    ∷ fires two_gauges (0 ∷ 1 ∷ 0 ∷ 2 ∷ []) (order 1) (4 ∷ []) (0 ∷ 1 ∷ 0 ∷ 2 ∷ [])
    ∷ fires two_gauges (0 ∷ 1 ∷ 0 ∷ 1 ∷ []) (order 1) (0 ∷ []) (0 ∷ 0 ∷ 1 ∷ 1 ∷ [])
    ∷ fires two_gauges (1 ∷ 0 ∷ 0 ∷ 65535 ∷ []) (order 0) (5 ∷ []) (1 ∷ 0 ∷ 0 ∷ 65535 ∷ [])
    ∷ fires two_gauges (1 ∷ 0 ∷ 0 ∷ 65535 ∷ []) (order 2) (1 ∷ []) (1 ∷ 0 ∷ 0 ∷ 65535 ∷ [])
    ∷ image_is two_gauges (order 2) 4294967295
    ∷ first_is two_gauges (3 ∷ 0 ∷ 0 ∷ 0 ∷ []) (found (order 0) 1)
    ∷ first_is two_gauges (0 ∷ 0 ∷ 0 ∷ 0 ∷ []) (nothing 2)
    ∷ weighs 3 (minus (all 1) (one 3 (constant 0 1))) (1 ∷ 0 ∷ 1 ∷ [])
    -- a set of two, v and one place of it, a transition with guard v less than v: two flat places, no rows
    ∷ unfolds (0x01 ∷ 1 ∷ 0x10 ∷ 2 ∷ 0x11 ∷ 0 ∷ 0x12 ∷ 0 ∷ 0x14 ∷ 0x15 ∷ 0x25 ∷ 0x30 ∷ 0 ∷ 0x30 ∷ 0 ∷ 0x1F ∷ [])
    (0x02 ∷ 1 ∷ 0x50 ∷ 0 ∷ 0 ∷ 0x50 ∷ 0 ∷ 0 ∷ 0x5F ∷ [])
    ∷ []

-- the result
pub starred_hold : AllHold starred
unfolding meanings
starred_hold = (refl, (refl, (refl, (refl, (refl, (refl, (refl, (refl, (refl, (refl, (refl, tt)))))))))))
