-- Reading the transitions of a net file, each with its guard and its arcs.
use Rattle.std.specs.Prelude.{◌+◌, ◌∷◌, if◌then◌else◌}
use Rattle.reading.specs.Basics.{ℕ, List, [], map, length, ltb, leb, eqb, absent, with, byte_at}
use Rattle.reading.specs.Reading.{Answer, fault, ◌and_then◌, under, ◌unless◌, checked, Command, standing, Part, whole}
use Rattle.net.specs.Net.{Arc, Transition, Net, place_at, arc_on, variables_of, binding_space}
use Rattle.net.specs.Reader.{command, read_guard_if, read_expression}

-- n holds the sets, variables and places that were read before
-- an arc: its place (5), one of a kind per place (9), its expression
abbrev pub arc_command : List ℕ → Net → List Arc → ℕ → ℕ → Command (List Arc)
arc_command s n arcs at kind =
    let p = byte_at s (at + 1) in
    command kind
    ((5 unless ltb p (length n.places)) ∷ (9 unless absent (arc_on arcs kind p)) ∷ [])
    (λ next. under (λ e. with arcs (record { kind = kind; place = p; expression = e })) (read_expression s n (place_at n p) 16 next))

-- 0x16 input, 0x17 output, 0x18 inhibitor, in any order
unfoldable pub arc_part : List ℕ → Net → Part (List Arc)
arc_part s n arcs at = standing s (map (arc_command s n arcs at) (0x16 ∷ 0x17 ∷ 0x18 ∷ [])) at

-- a transition ends: 0x15 does not end it, it is stray (3); many variables (10) and wide binding (11) are at its 0x14
abbrev pub ended : List ℕ → Net → List Transition → ℕ → Transition → ℕ → Answer (List Transition)
ended s n transitions at t end =
    if eqb (byte_at s end) 0x15 then fault 3 end
    else checked at
    ((10 unless leb (length (variables_of n t)) 4) ∷ (11 unless leb (binding_space n (with transitions t)) 65536) ∷ [])
    (with transitions t) end

-- 0x14 transition, at most 32: its guard, then its arcs
unfoldable pub transition_part : List ℕ → Net → Part (List Transition)
transition_part s n transitions at =
    standing s (command 0x14 ((4 unless ltb (length transitions) 32) ∷ []) (λ next.
    read_guard_if s n next and_then λ guard more.
    whole s (arc_part s n) [] more and_then λ arcs end.
    ended s n transitions at (record { guard = guard; arcs = arcs }) end) ∷ []) at
