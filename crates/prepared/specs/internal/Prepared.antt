-- The one relation between a net file, its net and its prepared table.
use Rattle.std.specs.Prelude.{◌≡◌, ◌<◌, ◌+◌}
use Rattle.reading.specs.Basics.{ℕ, List, length, get_or}
use Rattle.reading.specs.Reading.{accepted}
use Rattle.net.specs.Net.{Net, colours_of, flat_place_count, place_at, tokens_on}
use Rattle.evaluation.specs.internal.Evaluated.{is_pair}
use Rattle.net_parts.specs.internal.Tables.{count_of}
use Rattle.net_file.specs.NetFile.{read_net}
use Rattle.plan.specs.internal.Layout.{sets_in, variables_in, places_in, guards_in, own_in, packed_in, flat_places_in, transitions_in}
use Rattle.prepared.specs.internal.TransitionVariables.{Owned}
use Rattle.prepared.specs.internal.Packed.{shape_of}
use Rattle.prepared.specs.internal.Drawing.{start_of, Drawing}

-- the table of an accepted net: its counts, its sets and variables, its places, guards and arcs, and each transition's own variables
pub record Prepared (s : List ℕ) (n : Net) (plan : List ℕ) : Type 0 where
  pub read : read_net s ≡ accepted n
  pub drawing : Drawing s n (sets_in plan) (variables_in plan) (guards_in plan) (packed_in plan)
  pub owned : Owned n (own_in plan)
  pub shapes : (p : ℕ) → p < length n.places → get_or (places_in plan) p 0 ≡ shape_of (start_of n p) (colours_of n (place_at n p)) (is_pair (place_at n p))
  pub flat_places_are : flat_place_count n ≡ flat_places_in plan
  pub transitions_are : length n.transitions ≡ transitions_in plan

-- a lent list has the initial counts, flat place by flat place, as far as it reaches
pub record InitialCounts (n : Net) (initial : List ℕ) : Type 0 where
  pub count : (p rank : ℕ) → p < length n.places → rank < colours_of n (place_at n p) → start_of n p + rank < length initial → get_or initial (start_of n p + rank) 0 ≡ count_of (tokens_on n.tokens p rank)
