use Rattle.std.proofs.lemmas.Result.{err_from_is_err_and}
use Rattle.coloured.proofs.Calling.{no_fire}
use Rattle.coloured.proofs.fire_orders.Goals as goal

pub returns-in_err-drawing : goal.returns-in_err-drawing
returns-in_err-drawing c =
    let p = err_from_is_err_and c.from_residual.result c.from_residual.ensures.1 in
    rw (p.1, p.2) (no_fire _ c.in_err-drawing.ensures _ _ _)
