-- What an accepted net keeps to, and what a refusal does.
use Rattle.std.specs.Prelude.{◌≤◌, ◌<◌, ◌≡◌}
use Rattle.reading.specs.Basics.{ℕ, true, List, length, get_or, ltb, every}
use Rattle.reading.specs.Reading.{refused}
use Rattle.net.specs.Net.{Net, size_of, sets_of, place_at, flat_place_count, variables_of, binding_space, no_transition}
use Rattle.net_file.specs.NetFile.{read_net}

pub record Limits (n : Net) : Type 0 where
  -- at most 16 sets, each of 1 to 64 colours
  pub sets : length n.sets ≤ 16
  pub sizes : (i : ℕ) → i < length n.sets → (1 ≤ size_of n i) × (size_of n i ≤ 64)
  -- at most 32 variables, each of a set
  pub variables : length n.variables ≤ 32
  pub variable_sets : (v : ℕ) → v < length n.variables → get_or n.variables v 0 < length n.sets
  -- at most 32 places, each of sets, with at most 4,096 colours together
  pub places : length n.places ≤ 32
  pub place_sets : (p : ℕ) → p < length n.places → every (λ set. ltb set (length n.sets)) (sets_of (place_at n p)) ≡ true
  pub flat_places_lem : flat_place_count n ≤ 4096
  -- at most 32 transitions, each of at most 4 variables, with at most 65,536 bindings together
  pub transitions : length n.transitions ≤ 32
  pub few_variables : (t : ℕ) → t < length n.transitions → length (variables_of n (get_or n.transitions t no_transition)) ≤ 4
  pub space : binding_space n n.transitions ≤ 65536

-- a refusal's number is at most 15, and its place at most 16,384
abbrev pub RefusalsFit : Type 0
RefusalsFit = (s : List ℕ) (number place : ℕ) → read_net s ≡ refused number place → (number ≤ 15) × (place ≤ 16384)
