use mathlib.Core.Path.{◌≡◌}
use Prim.Native.Nat.{◌<◌}
use Rattle.reading.specs.Basics.{below, product}
use Rattle.firing.proofs.Running.{Searching}
use Rattle.bindings.specs.internal.Bindings.{BindsIts, its_sizes}
use Rattle.search.specs.internal.Searched.{fires_its}
use Rattle.search.proofs.engine.Marked.search_bindings.Given as goal

abbrev pub invariant-loop-i : goal.invariant-loop-i
invariant-loop-i g l = record {
  seeking : Searching (fires_its l.transition l.self.marking.now) (below (product (its_sizes l.transition))) l.i;
  binds : l.i < l.many → BindsIts l.transition l.i l.env;
  all : l.many ≡ product (its_sizes l.transition);
}
