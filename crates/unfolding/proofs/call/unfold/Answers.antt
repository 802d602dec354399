use Rattle.std.proofs.lemmas.Result.{err_from_is_err_and}
use Rattle.rows.proofs.Fires.{roomy}
use Rattle.unfolding.proofs.Unfolds.{unfold_refused}
use Rattle.unfolding.proofs.call.unfold.Goals as goal

pub returns-in_err-drawing : goal.returns-in_err-drawing
returns-in_err-drawing c =
    let p = err_from_is_err_and c.from_residual.result c.from_residual.ensures.1 in
    rw (p.1, p.2) (unfold_refused c.args.net.now c.args.out.now c.in_err-drawing.ensures)

pub invariant_of-write_large-clause-roomy : goal.invariant_of-write_large-clause-roomy
invariant_of-write_large-clause-roomy c = roomy c.file.ensures.known
