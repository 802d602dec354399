use Rattle.std.proofs.Common.{ap, ◌∙◌, ◌+◌, arith}
use Rattle.std.proofs.lemmas.List.{take_rest}
use Rattle.runs.specs.internal.Terms.{join_by}
use Rattle.runs.proofs.Laying.{changed, length-behind, length-changed}
use Rattle.runs.proofs.Merging.{merging_goes, merging_ends, rest_length}
use Rattle.runs.proofs.merge_runs.Goals as goal

pub loop-a-preserved : goal.loop-a-preserved
loop-a-preserved c =
    let so = c.loop-a.invariant in
    let rest = c.merge_rest-end.ensures in
    let one = c.store-end.ensures in
    let long = c.loop-a.auto.room in
    let front = c.split_at.ensures.front_len in
    let part = length-behind c.loop-a.end c.loop-a.room in
    let size = length-changed c.loop-a.end c.loop-a.room c.merge_rest-end.new.room (omega (arith, so.within, long)) c.merge_rest-end.auto.room in
    let behind = length-behind (c.loop-a.end + c.merge_rest-end.result) (changed c.loop-a.end c.loop-a.room c.merge_rest-end.new.room) in
    record {
      within = omega (arith, so.within, rest.within, one.within, long, part, size, behind);
      goes = λ h.
          let m = so.goes h in
          let lower = rest.is (omega (arith, m.room, front, c.lower.ensures.within, long, part)) in
          let few = rest_length (join_by c.args.op) c.args.p c.split_at.result.0.now in
          let next = one.is (omega (arith, m.room, lower.many, few, front, c.lower.ensures.within, long, part, size, behind)) in
          let n = merging_goes _ _ _ _ _ _ _ _ c.split_at.result.0.now c.split_at.result.1.now c.count_of-both.result m c.loop-a-test.true c.lower.ensures.is
          c.split_at.ensures.front c.split_at.ensures.back c.count_of-both.ensures (c.join-weight.ensures ∙ ap (join_by c.args.op _) c.unwrap_or.ensures)
          (omega (arith, so.within, long)) lower (omega (arith, so.within, rest.within, long, part)) next in
          rw (take_rest, c.from.ensures, c.is_some.ensures) n;
    }

pub returns-clause-is : goal.returns-clause-is
returns-clause-is c = λ h.
    let so = c.loop-a.invariant in
    let long = c.loop-a.auto.room in
    let m = so.goes h in
    merging_ends _ _ _ _ _ m c.loop-a-test.false long (omega (arith, so.within, long)) (c.merge_rest.ensures.is (omega (arith, m.room, long, length-behind c.loop-a.end c.loop-a.room)))
