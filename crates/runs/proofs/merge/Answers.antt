use Rattle.std.proofs.Common.{arith}
use Rattle.std.proofs.lemmas.List.{take-take}
use Rattle.runs.proofs.Laying.{arcs_behind, laid_there}
use Rattle.runs.proofs.Merging.{apart_joined}
use Rattle.runs.proofs.merge.Goals as goal

pub returns-then-apart-clause-is : goal.returns-then-apart-clause-is
returns-then-apart-clause-is c = λ below t u h.
    let a = c.args in
    let runs = c.split_at.ensures in
    let are = rw (runs.front, runs.back, take-take a.first a.both a.room.now c.requires, arcs_behind a.room.now a.first a.both c.requires) at (c.apart.ensures c.if-apart.true) in
    laid_there a.room.now a.first a.both c.requires (omega arith) (apart_joined a.op _ _ below a.p a.q t u are)
