-- Reading a whole net file.
use Rattle.std.specs.Prelude.{◌∷◌, if◌then◌else◌}
use Rattle.reading.specs.Basics.{ℕ, List, [], length, ltb}
use Rattle.reading.specs.Reading.{Answer, fine, ◌and_then◌, Outcome, outcome, refused, whole, file}
use Rattle.net.specs.Net.{Net, net, scope}
use Rattle.net_parts.specs.Parts.{set_part, variable_part, place_part, tokens_part}
use Rattle.net_transitions.specs.Transitions.{transition_part}

-- the parts, in this order
abbrev pub content : List ℕ → ℕ → Answer Net
content s start =
    whole s (set_part s) [] start and_then λ sets at.
    whole s (variable_part s (scope sets [] [])) [] at and_then λ variables at.
    whole s (place_part s (scope sets variables [])) [] at and_then λ places at.
    whole s (transition_part s (scope sets variables places)) [] at and_then λ transitions at.
    whole s (tokens_part s (net sets variables places transitions [])) [] at and_then λ tokens at.
    fine (net sets variables places transitions tokens) at

-- at most 16,384 bytes (1), then 0x01, the parts, 0x1F
unfoldable pub read_net : List ℕ → Outcome Net
read_net s =
    let read = outcome (file 0x01 (1 ∷ []) (content s) 0x1F s) in
    if ltb 16384 (length s) then refused 1 16384 else read
