use Rattle.std.proofs.Common.{arith, rules, ap, ◌∙◌}
use Rattle.firing.specs.Firing.{fired}
use Rattle.firing.proofs.Running.{run_begin, run_item, run_items_end}
use Rattle.flat_file.specs.Flat.{fire_image}
use Rattle.flat.proofs.rows.Rows.fire_list.Goals as goal

pub loop-i-init : goal.loop-i-init
loop-i-init g c = record { runs = λ f held. run_begin _ _ _ _; same = search rules }

pub loop-i-preserved : goal.loop-i-preserved
loop-i-preserved g c =
    record {
      runs = λ f held.
          run_item (fire_image f) 5 c.args.images.now _ _ (c.loop-i.invariant.runs f held) _ _ c.loop-i-test.true c.requires
          (ap (λ a. fired a c.fire_nth.new.m) c.number.ensures ∙ (c.fire_nth.ensures f (rw c.loop-i.invariant.same held) ∙ grind arith)) c.fire_nth.auto.m;
      same = search rules;
    }

pub returns : goal.returns
returns g c f held = run_items_end (fire_image f) 5 c.args.images.now _ _ (c.loop-i.invariant.runs f held) c.loop-i-test.false
