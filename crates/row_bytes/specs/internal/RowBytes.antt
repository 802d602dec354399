-- The bytes of the rows, binding by binding; and what the code that measures and writes them knows of the net.
use Rattle.std.specs.Prelude.{◌≡◌, ◌≤◌, ◌<◌, ◌+◌}
use Rattle.reading.specs.Basics.{ℕ, true, List, [], flat_map, length, given, below, product}
use Rattle.flat_file.specs.Flat.{row_bytes}
use Rattle.net.specs.Net.{Net, sizes_of, transition_at}
use Rattle.bindings.specs.Effect.{effect, flat_row}
use Rattle.net_file.specs.Limits.{Limits}
use Rattle.rows.specs.internal.Effects.{room}
use Rattle.bindings.specs.internal.Bindings.{numbered, its_sizes, BindsIts}
use Rattle.prepared.specs.internal.Drawn.{Drawn, net_of, DrawnTransition, its_net}
use Rattle.row_numbers.specs.internal.Walked.{its_every_row, it_takes}
use Rattle.row_numbers.specs.internal.Marks.{has_row, Marked}

-- what binding number i of a transition gives the flat file: its row's bytes, none where it has no effect
unfoldable pub binding_bytes : Net → ℕ → ℕ → List ℕ
binding_bytes n t i = given (effect n (numbered n t i)) [] λ w. row_bytes (flat_row n w)

-- what all its bindings give
unfoldable pub transition_bytes : Net → ℕ → List ℕ
transition_bytes n t = flat_map (binding_bytes n t) (below (product (sizes_of n (transition_at n t))))

-- what all transitions give
abbrev pub all_bytes : Net → List ℕ
all_bytes n = flat_map (transition_bytes n) (below (length n.transitions))

-- of each transition's bindings the marks tell which have an effect
abbrev pub Ruled : Drawn → List ℕ → Type 0
Ruled d marks = Marked (net_of d) d.plan marks (length (net_of d).transitions)

-- a transition has so many bindings, and their marks, if it has some, stand from base on
pub record Known (transition : DrawnTransition) (marks : List ℕ) (many base : ℕ) : Type 0 where
  pub limits : Limits (its_net transition)
  pub size : many ≡ product (its_sizes transition)
  pub few : base + many ≤ 65536
  pub told : (i : ℕ) → i < many → has_row (its_every_row transition) marks (base + i) ≡ it_takes transition i

-- one binding of a transition, by its colours, that has an effect
pub record Bound (transition : DrawnTransition) (env : List ℕ) : Type 0 where
  pub index : ℕ
  pub binds : BindsIts transition index env
  pub takes_effect_lem : it_takes transition index ≡ true

-- what one of a transition's bindings gives, and what all of them give
abbrev pub bytes_at : DrawnTransition → ℕ → List ℕ
bytes_at transition i = binding_bytes (its_net transition) transition.number i

abbrev pub its_bytes : DrawnTransition → List ℕ
its_bytes transition = transition_bytes (its_net transition) transition.number

-- a list of so many arcs has the room that loading the net's rows needs
abbrev pub Roomy : Drawn → ℕ → Type 0
Roomy d arcs = room d.file (net_of d) ≤ arcs
