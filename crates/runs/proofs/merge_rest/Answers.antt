use Rattle.std.proofs.Common.{arith, take}
use Rattle.std.proofs.lemmas.List.{length-take-le}
use Rattle.runs.specs.internal.Terms.{term, joined, join_by}
use Rattle.runs.proofs.Laying.{laid_none, length-behind}
use Rattle.runs.proofs.Merging.{rest_goes, rest_length}
use Rattle.runs.proofs.merge_rest.Goals as goal

pub loop-b-init : goal.loop-b-init
unfolding joined
loop-b-init c = record { within = omega arith; lie = λ h. laid_none _ }

pub loop-b-preserved : goal.loop-b-preserved
loop-b-preserved c =
    let so = c.loop-b.invariant in
    let i = c.loop-b.b-index in
    let rest = c.args.rest.now in
    let put = c.store-end.ensures in
    let long = c.loop-b.auto.room in
    let part = length-behind c.loop-b.end c.loop-b.room in
    record {
      within = omega (arith, put.within, so.within, part, long);
      lie = λ h.
          let lie = so.lie h in
          let n = rest_length (join_by c.args.op) c.args.p (take i rest) in
          rest_goes _ _ rest i c.join-weight.result (term 0 0) c.loop-b-test.true lie c.join-weight.ensures (omega (arith, so.within, long))
          (put.is (omega (arith, lie.many, n, length-take-le i rest (omega arith), part, long)));
    }
