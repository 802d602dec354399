-- How many arcs the rows of a transition have at most, whatever the binding.
use Rattle.std.specs.Prelude.{◌≡◌, ◌≤◌, ◌<◌, ◌+◌}
use Rattle.reading.specs.Basics.{ℕ, length, some, product}
use Rattle.firing.specs.Firing.{Weights}
use Rattle.firing.specs.Arcs.{Row}
use Rattle.net.specs.Net.{Net, sizes_of, transition_at}
use Rattle.net_file.specs.Formed.{Fitting}
use Rattle.bindings.specs.Effect.{effect, flat_row}
use Rattle.rows.specs.internal.Effects.{kind_arcs}
use Rattle.bindings.specs.internal.Bindings.{numbered}

-- under colours of the variables' sets, a transition's arcs of a kind give so many at most
abbrev pub MostKind : Net → ℕ → ℕ → ℕ → Type 0
MostKind n t k most = (value : ℕ → ℕ) → Fitting n value → length (kind_arcs n (transition_at n t) value (0x16 + k) (length n.places)) ≤ most

-- of a row
abbrev pub arcs_of_row : Row → ℕ
arcs_of_row row = length row.takes + length row.puts + length row.hinders

-- a row of a transition has so many arcs at most
abbrev pub MostRow : Net → ℕ → ℕ → Type 0
MostRow n t most = (i : ℕ) (w : Weights) → i < product (sizes_of n (transition_at n t)) → effect n (numbered n t i) ≡ some w → arcs_of_row (flat_row n w) ≤ most
