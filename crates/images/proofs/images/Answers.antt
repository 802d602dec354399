use Rattle.std.proofs.lemmas.Result.{err_from_is_err_and}
use Rattle.images.proofs.Replying.{no_images, images_13, images_14, images_done}
use Rattle.images.proofs.images.Goals as goal

pub returns-in_err-drawing : goal.returns-in_err-drawing
returns-in_err-drawing c = let p = err_from_is_err_and c.from_residual.result c.from_residual.ensures.1 in rw (p.1, p.2) (no_images _ c.in_err-drawing.ensures _ _)

pub returns-then-orders-ne0 : goal.returns-then-orders-ne0
returns-then-orders-ne0 c = rw c.refused.ensures (images_13 _ c.in_ok-drawing.ensures.1 c.args.orders.now c.args.out.now c.if-orders-ne0.true)

pub returns-then-out-count : goal.returns-then-out-count
returns-then-out-count c = rw c.refused-then-out-count.ensures (images_14 _ c.in_ok-drawing.ensures.1 c.args.orders.now c.args.out.now c.if-orders-ne0.false c.if-out-count.true)

pub returns-then-entries-le64 : goal.returns-then-entries-le64
returns-then-entries-le64 c = images_done _ c.in_ok-drawing.ensures.1 c.args.orders.now c.args.out.now c.if-orders-ne0.false _ c.if-out-count.false c.images_by.ensures

pub returns-then-entries-le1024 : goal.returns-then-entries-le1024
returns-then-entries-le1024 c = images_done _ c.in_ok-drawing.ensures.1 c.args.orders.now c.args.out.now c.if-orders-ne0.false _ c.if-out-count.false c.images_by-then-entries-le1024.ensures

pub returns-else-entries-le1024 : goal.returns-else-entries-le1024
returns-else-entries-le1024 c = images_done _ c.in_ok-drawing.ensures.1 c.args.orders.now c.args.out.now c.if-orders-ne0.false _ c.if-out-count.false c.images_long.ensures
