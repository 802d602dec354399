use Rattle.runs.specs.internal.Terms.{join_by}
use Rattle.runs.proofs.Merging.{merged}
use Rattle.runs.proofs.merge_behind.Goals as goal

pub returns-clause-is : goal.returns-clause-is
returns-clause-is c = λ h.
    let a = c.args in
    let cut = c.split_at_mut-terms.ensures in
    let runs = c.split_at.ensures in
    rw c.copy_within.ensures.after
    (merged (join_by a.op) a.p a.q a.room.now _ _ _ a.first a.both _ c.requires.0 h cut.front cut.back (rw (runs.front, runs.back) at c.merge_runs-many.ensures.is))
