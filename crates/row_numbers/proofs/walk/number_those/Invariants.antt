use mathlib.Core.Path.{◌≡◌}
use Prim.Native.Nat.{ℕ, ◌≤◌, ◌<◌, ◌+◌}
use lib.ListN.{length, get_or}
use Rattle.reading.specs.Basics.{product}
use Rattle.prepared.specs.internal.Drawn.{its_net}
use Rattle.bindings.specs.internal.Bindings.{its_sizes, BindsIts}
use Rattle.row_numbers.specs.internal.Walked.{its_effects, NumbersFrom}
use Rattle.row_numbers.proofs.walk.number_those.Given as goal

abbrev pub invariant-loop-i : goal.invariant-loop-i
invariant-loop-i l = (l.i < l.i-end → BindsIts l.transition l.i l.env) × (l.total ≤ l.count + l.i) × (l.total ≡ l.count + its_effects l.transition l.i) × (l.base + product (its_sizes l.transition) ≤ length l.initial.numbers → NumbersFrom (its_net l.transition) l.transition.number l.numbers l.base l.count l.i) × ((j : ℕ) → j < l.base → get_or l.numbers j 0 ≡ get_or l.initial.numbers j 0) × (l.i-end ≡ product (its_sizes l.transition))
