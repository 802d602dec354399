use Rattle.std.proofs.Common.{arith, sym, ◌∙◌}
use Rattle.firing.proofs.Passes.{none_taken, spill_weight, spill_fits, spill_goes, spill_hit, spill_ends}
use Rattle.firing.proofs.some_spills.Goals as goal

pub loop-put-preserved-then-not-spills : goal.loop-put-preserved-then-not-spills
loop-put-preserved-then-not-spills c n t p = spill_fits _ _ _ _ _ (c.loop-put.invariant n t p) _ (omega arith) (sym (c.spills.ensures _ (none_taken _)) ∙ c.if-not-spills.true)

pub returns-then-spills : goal.returns-then-spills
returns-then-spills c n t p =
    let s = c.loop-put.invariant n t p in
    sym (spill_hit _ _ _ _ _ s _ (omega arith) c.seek-rest.ensures c.weight_at.ensures (sym (c.spills-in-loop-put.ensures _ (spill_weight _ _ _ _ _ s _ (omega arith) c.seek-rest.ensures c.weight_at.ensures)) ∙ c.if-spills.true))

pub loop-put-preserved : goal.loop-put-preserved
loop-put-preserved c n t p =
    let s = c.loop-put.invariant n t p in
    spill_goes _ _ _ _ _ s _ (omega arith) c.seek-rest.ensures c.weight_at.ensures (sym (c.spills-in-loop-put.ensures _ (spill_weight _ _ _ _ _ s _ (omega arith) c.seek-rest.ensures c.weight_at.ensures)) ∙ c.if-spills.false)

pub returns : goal.returns
returns c n t p = sym (spill_ends _ _ _ _ _ (c.loop-put.invariant n t p) (omega arith))
