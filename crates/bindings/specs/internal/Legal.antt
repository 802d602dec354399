-- Which transitions' bindings all have an effect, by the table of a prepared net.
use Rattle.reading.specs.Basics.{ℕ, Bool, List, get_or, ltb}
use Rattle.plan.specs.internal.Layout.{guards_in}

-- each of a transition's bindings has an effect, and so a row: it has no guard
abbrev pub every_row : List ℕ → ℕ → Bool
every_row plan t = ltb (get_or (guards_in plan) t 0) 1
