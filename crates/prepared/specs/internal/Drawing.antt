-- What the tables of a net say of the net in a file.
use Rattle.std.specs.Prelude.{◌≡◌, ◌<◌, ◌+◌, ◌*◌}
use Rattle.reading.specs.Basics.{ℕ, List, map, option_map, length, get_or, take, sum}
use Rattle.net.specs.Net.{Guard, always, Net, scope, colours_of, place_at, arc_on, transition_at}
use Rattle.net.specs.Reader.{read_guard, read_expression}
use Rattle.net_file.specs.Limits.{Limits}
use Rattle.net_transitions.specs.internal.TransitionTables.{Standing, Slot}
use Rattle.evaluation.specs.internal.Evaluated.{is_pair}
use Rattle.prepared.specs.internal.Packed.{shape_of, Packed}

-- where the flat places of a place begin
abbrev pub start_of : Net → ℕ → ℕ
start_of n p = sum (map (colours_of n) (take p n.places))

-- where a guard stands, as the table has it: 0 without one
pub record GuardPlaced (s : List ℕ) (n : Net) (guard : Guard) (at : ℕ) : Type 0 where
  pub without : at ≡ 0 → guard ≡ always
  pub stands : 0 < at → Standing (read_guard s n 16) guard at

-- sets and variables of a net that keeps to its limits; where guards and arc expressions stand, a slot for each arc, of which the packed table has those that are
-- not 0, each told with what its place is like
pub record Drawing (s : List ℕ) (n : Net) (sizes vars guards arcs : List ℕ) : Type 0 where
  pub sets : n.sets ≡ sizes
  pub variables : n.variables ≡ vars
  pub limits : Limits n
  pub guard : (t : ℕ) → t < length n.transitions → GuardPlaced s (scope sizes vars n.places) (transition_at n t).guard (get_or guards t 0)
  pub slots : List ℕ
  pub arc : (t k p : ℕ) → t < length n.transitions → k < 3 → p < length n.places
      → Slot (read_expression s (scope sizes vars n.places) (place_at n p) 16) (option_map (λ a. a.expression) (arc_on (transition_at n t).arcs (0x16 + k) p))
      (get_or slots (t * 96 + (k * 32 + p)) 0)
  pub shape : ℕ → ℕ
  pub shaped : (p : ℕ) → p < length n.places → shape p ≡ shape_of (start_of n p) (colours_of n (place_at n p)) (is_pair (place_at n p))
  pub packed : Packed 134217728 shape slots arcs (length n.places) (length n.transitions)
