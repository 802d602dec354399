use native.Mathlib.Omega.{arith}
use mathlib.Core.Path.{◌≡◌, ap, ◌∙◌}
use Rattle.std.specs.Prelude.{◌+◌, ◌*◌, ◌-◌}
use Rattle.reading.specs.Basics.{take, drop}
use Rattle.prepared.specs.internal.Drawn.{net_of}
use Rattle.row_numbers.specs.Unfolding.{row_number}
use Rattle.images.proofs.Imaging.{image_next, image_end}
use Rattle.images.proofs.image.images_by.Goals as goal

pub loop-i-preserved : goal.loop-i-preserved
loop-i-preserved g c =
    let six : c.loop-i.i * 6 + 6 - c.loop-i.i * 6 ≡ 6 = omega arith in
    (omega (arith, c.write_image-next.ensures.next_is), image_next _ c.args.orders.now c.loop-i.invariant.1 c.loop-i-test.true (c.row_of-row.ensures ∙ ap (λ k. row_number (net_of c.args.drawing.now) (take k (drop (c.loop-i.i * 6) c.args.orders.now))) six) c.write_image-next.ensures)

pub returns : goal.returns
returns g c = image_end _ c.args.orders.now c.loop-i.invariant.1 c.loop-i-test.false
