use Rattle.std.proofs.Common.{arith}
use Rattle.sums.proofs.Summing.{sum-joins}
use Rattle.sums.proofs.bound_arc.BoundArc.sum_terms.Goals as goal

pub loop-level-preserved : goal.loop-level-preserved
loop-level-preserved c =
    let so = c.loop-level.invariant in
    let more = c.sum_runs-more in
    record {
      within = omega (arith, so.within, more.ensures.within, c.merge.ensures.within, c.loop-level.auto.room, more.auto.room, c.sum_counts-sum.auto.room);
      told = λ known first second. sum-joins _ _ _ _ _ _ _ _ _ _ _ _ (so.told known first second) _ _ _ _ (more.ensures.is known first second) _ _ c.merge.ensures.is;
    }
