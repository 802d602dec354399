use mathlib.Core.Path.{◌≡◌}
use Prim.Native.Nat.{◌≤◌, ◌<◌}
use Rattle.prepared.specs.internal.Drawn.{its_net}
use Rattle.reading.specs.Basics.{product}
use Rattle.bindings.specs.internal.Bindings.{its_sizes, BindsIts}
use Rattle.row_numbers.specs.internal.Walked.{its_effects}
use Rattle.row_numbers.specs.internal.Marks.{Blank, BindingsMarked}
use Rattle.row_numbers.proofs.marks.mark_those.Given as goal

abbrev pub invariant-loop-i : goal.invariant-loop-i
invariant-loop-i l = (l.i < l.i-end → BindsIts l.transition l.i l.env) × (l.count ≤ l.i) × (l.count ≡ its_effects l.transition l.i) × (Blank l.initial.marks l.base → BindingsMarked (its_net l.transition) l.transition.number l.initial.marks l.marks l.base l.i) × (l.i-end ≡ product (its_sizes l.transition))
