use Rattle.std.proofs.Common.{drop, ◌∙◌, arith}
use Rattle.net_transitions.proofs.Lent.{part_sized}
use Rattle.prepared.proofs.Filling.{part_at, readied}
use Rattle.prepared.proofs.fill.prepare.Goals as goal

pub returns : goal.returns
returns c =
    let plan = c.args.plan.now in
    let part = c.read_packed.new.part in
    readied c.in_ok-counts.ensures c.place_lists.ensures.long.0 c.place_lists.ensures.long.1 c.place_counts.array_long
    (part_at plan part (drop 3072 (drop 512 plan)) (omega (arith, c.told-plan)) (c.read_packed.auto.part ∙ part_sized plan 512 3072 (omega (arith, c.told-plan)))) c.place_lists.ensures.placed c.place_shapes.ensures c.place_counts.ensures
