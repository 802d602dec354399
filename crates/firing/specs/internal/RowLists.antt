-- Rows in one lent list of arcs.
use Rattle.std.specs.Prelude.{◌≡◌, ◌≤◌, ◌-◌, Option, Some, None}
use Rattle.reading.specs.Basics.{ℕ, List, length, take, drop}
use Rattle.firing.specs.Arcs.{Arc, Row, row}
use Rattle.firing.specs.declared.RowArcs.{RowArcs}

-- the arcs number a to b - 1 of the list
unfoldable pub arcs_in : List Arc → ℕ → ℕ → List Arc
arcs_in arcs a b = take (b - a) (drop a arcs)

-- the row whose takes, puts and hinders stand there one after the other, each kind up to its end
abbrev pub row_in : List Arc → ℕ → ℕ → ℕ → Row
row_in arcs takes puts hinders = row (arcs_in arcs 0 takes) (arcs_in arcs takes puts) (arcs_in arcs puts hinders)

-- a row's kinds end in turn, and the list reaches to its end
abbrev pub EndsWithin : List Arc → ℕ → ℕ → ℕ → Type 0
EndsWithin arcs takes puts hinders = (takes ≤ puts) × (puts ≤ hinders) × (hinders ≤ length arcs)

-- the row that three slices hold
abbrev pub row_held : RowArcs → Row
row_held r = row r.takes.now r.puts.now r.hinders.now

-- that row, or none where they don't
abbrev pub RowWithin : List Arc → ℕ → ℕ → ℕ → Option RowArcs → Type 0
RowWithin arcs takes puts hinders None = EndsWithin arcs takes puts hinders → ⊥
RowWithin arcs takes puts hinders (Some r) = EndsWithin arcs takes puts hinders × (row_held r ≡ row_in arcs takes puts hinders)
