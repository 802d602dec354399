use Rattle.reading.specs.Basics.{items}
use Rattle.firing.proofs.Running.{Running}
use Rattle.prepared.specs.internal.Drawn.{net_of}
use Rattle.bindings.specs.Orders.{fire_order}
use Rattle.coloured.proofs.engine.Orders.fire_list.Given as goal

abbrev pub invariant-loop-i : goal.invariant-loop-i
invariant-loop-i g l = Running (fire_order (net_of l.self.drawing.now)) (items 6 l.self.list.now) l.initial.m l.initial.answers l.m l.answers l.i
