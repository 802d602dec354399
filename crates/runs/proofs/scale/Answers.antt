use Rattle.std.proofs.lemmas.List.{get_or_default}
use Rattle.std.proofs.lemmas.List.Edits.{map_over_more}
use Rattle.std.proofs.Common.{◌<◌, ◌*◌, length, get_or, arith}
use Rattle.runs.specs.internal.Terms.{limit, term}
use Rattle.runs.proofs.scale.Goals as goal

pub loop-a-preserved : goal.loop-a-preserved
loop-a-preserved c =
    let f = c.args.factor in
    let i = c.loop-a.a-index in
    let x = get_or c.loop-a.a-items i (term 0 0) in
    let lt : i < length c.loop-a.a-items = omega (arith, c.loop-a.auto.a-items) in
    rw c.scaled-a.ensures
    (map_over_more (λ a. term a.place (limit (f * a.weight))) c.args.run.now c.loop-a.a-items i x c.loop-a-test.true c.loop-a.invariant (get_or_default c.loop-a.a-items i (term 0 0) x lt))
