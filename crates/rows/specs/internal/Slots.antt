-- What the code tells of the slots that the rows of a net need in the lent lists: so many are enough.
use Rattle.std.specs.Prelude.{◌≤◌, ◌+◌}
use Rattle.reading.specs.Basics.{ℕ, map}
use Rattle.net.specs.Net.{Net, transition_at}
use Rattle.rows.specs.internal.Effects.{kind_slots, row_slots, greatest}

-- for a transition's arcs of a kind
abbrev pub KindSlotted : Net → ℕ → ℕ → ℕ → Type 0
KindSlotted n t k slots = kind_slots n (transition_at n t) (0x16 + k) ≤ slots

-- for a row of it
abbrev pub RowSlotted : Net → ℕ → ℕ → Type 0
RowSlotted n t slots = row_slots n (transition_at n t) ≤ slots

-- for the rows of a net
abbrev pub NetSlotted : Net → ℕ → Type 0
NetSlotted n slots = greatest (map (row_slots n) n.transitions) ≤ slots
