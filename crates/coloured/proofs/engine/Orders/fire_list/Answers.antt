use native.Mathlib.Omega.{arith}
use mathlib.Core.Path.{◌≡◌, ap, ◌∙◌}
use Rattle.std.specs.Prelude.{◌+◌, ◌*◌, ◌-◌}
use Rattle.firing.specs.Firing.{fired}
use Rattle.firing.proofs.Running.{run_begin, run_item, run_items_end}
use Rattle.bindings.specs.Orders.{fire_order}
use Rattle.prepared.specs.internal.Drawn.{net_of}
use Rattle.coloured.proofs.engine.Orders.fire_list.Goals as goal

pub loop-i-init : goal.loop-i-init
loop-i-init g c = run_begin _ _ _ _

pub loop-i-preserved : goal.loop-i-preserved
loop-i-preserved g c =
    let six : c.loop-i.i * 6 + 6 - c.loop-i.i * 6 ≡ 6 = omega arith in
    run_item (fire_order (net_of c.args.self.drawing.now)) 6 c.args.self.list.now _ _ c.loop-i.invariant _ _ (omega arith) c.requires.space (ap (λ a. fired a c.fire_nth.new.m) (grind arith) ∙ (rw six at c.fire_nth.ensures)) c.fire_nth.auto.m

pub returns : goal.returns
returns g c = run_items_end (fire_order (net_of c.args.self.drawing.now)) 6 c.args.self.list.now _ _ c.loop-i.invariant (omega arith)
