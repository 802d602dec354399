use Rattle.std.proofs.Common.{arith, sym, ◌∙◌}
use Rattle.sums.proofs.Summing.{sum_begins, sum_opens, sum_takes}
use Rattle.sums.proofs.bound_arc.BoundArc.sum_counts.Goals as goal
use Rattle.sums.proofs.bound_arc.BoundArc.sum_counts.Goals.{then-b-eq66, else-b-eq66}

pub loop-init : goal.loop-init
loop-init c = record { within = omega arith; told = λ known first second. sum_begins _ _ _ _ _ _ _ _ }

pub loop-preserved : goal.loop-preserved
loop-preserved c =
    let so = c.loop.invariant in
    let more = c.ends_run.ensures c.if-ends_run.false in
    elim c.if-b-eq66.branch [
      | then-b-eq66 w ↦
          let b = sym c.byte_at-b.ensures.0 ∙ w.if-b-eq66.true in
          rw (w.room-is, w.many-is, w.next-is, w.ahead-is) (record { within = so.within; told = λ known first second. sum_opens _ _ _ _ _ _ _ _ _ _ _ _ (so.told known first second) more.0 b })
      | else-b-eq66 w ↦
          let b = sym c.byte_at-b.ensures.0 ∙ more.2 w.if-b-eq66.false in
          let add = w.add_count-many.ensures in
          rw (w.room-is, w.many-is, w.next-is, w.ahead-is) (record {
            within = omega (arith, add.within, so.within, c.loop.auto.room);
            told = λ known first second.
                sum_takes _ _ _ _ _ _ _ _ _ _ _ _ (so.told known first second) _ w.rank_at-k.result _ more.0 b (w.rank_at-k.ensures known first second _ _) (omega (arith, w.word_at-weight.ensures))
                (rw w.word_at-weight.ensures.0 at add.inside) add.outside;
          })
    ]
