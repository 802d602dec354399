use mathlib.Core.Path.{◌≡◌}
use Prim.Native.Nat.{◌≤◌, ◌<◌}
use Rattle.reading.specs.Basics.{product}
use Rattle.bindings.specs.internal.Bindings.{its_sizes, BindsIts}
use Rattle.row_numbers.specs.internal.Walked.{its_effects}
use Rattle.row_numbers.proofs.seek.seek_guarded.Given as goal

abbrev pub invariant-loop-i : goal.invariant-loop-i
invariant-loop-i l = (l.i < l.i-end → BindsIts l.transition l.i l.env) × (l.count ≤ l.i) × (l.count ≤ l.row) × (l.count ≡ its_effects l.transition l.i) × (l.i-end ≡ product (its_sizes l.transition))
