use Rattle.std.proofs.lemmas.Result.{err_from_is_err_and}
use Rattle.images.proofs.Replying.{no_order_told, order_none, order_found}
use Rattle.images.proofs.row_order.Goals as goal

pub returns-in_err-drawing : goal.returns-in_err-drawing
returns-in_err-drawing c = let p = err_from_is_err_and c.from_residual.result c.from_residual.ensures.1 in rw (p.1, p.2) (no_order_told _ c.in_err-drawing.ensures _)

pub returns-in-Some : goal.returns-in-Some
returns-in-Some c = order_found _ c.args.row c.in_ok-drawing.drawing c.in_ok-drawing.ensures.1 _ c.in-Some.is c.seek_row.ensures.told (rw c.transition.ensures at c.order_at.ensures)

pub returns-in-None : goal.returns-in-None
returns-in-None c = order_none _ c.args.row c.in_ok-drawing.drawing c.in_ok-drawing.ensures.1 c.in-None.is c.seek_row.ensures.told
