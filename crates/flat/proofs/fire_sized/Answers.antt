use Rattle.std.proofs.Common.{arith}
use Rattle.std.proofs.lemmas.Result.{err_from_is_err_and}
use Rattle.flat.proofs.Standing.{held_front, all_stand}
use Rattle.flat.proofs.Calling.{no_fire, fire_12, fire_13, fire_14, fire_done}
use Rattle.flat.proofs.fire_sized.Goals as goal

pub returns-in_err-sizes : goal.returns-in_err-sizes
returns-in_err-sizes g c = let p = err_from_is_err_and c.from_residual.result c.from_residual.ensures.1 in rw (p.1, p.2) (no_fire _ c.in_err-sizes.ensures _ _ _)

pub returns-then-m-sizes : goal.returns-then-m-sizes
returns-then-m-sizes g c = rw c.refused.ensures (fire_12 c.in_ok-sizes.ensures.1 _ _ _ c.if-m-sizes.true)

pub returns-then-images-ne0 : goal.returns-then-images-ne0
returns-then-images-ne0 g c = rw c.refused-then-images-ne0.ensures (fire_13 c.in_ok-sizes.ensures.1 _ c.if-m-sizes.false _ _ c.if-images-ne0.true)

pub returns-then-answers-images : goal.returns-then-answers-images
returns-then-answers-images g c = rw c.refused-then-answers-images.ensures (fire_14 c.in_ok-sizes.ensures.1 _ c.if-m-sizes.false _ _ c.if-images-ne0.false c.if-answers-images.true)

pub invariant_of-rows : goal.invariant_of-rows
invariant_of-rows g c =
    let held = c.in_ok-sizes.ensures.1 in
    record { few_places = held.few_places; few_arcs = c.requires.few_arcs.0; all_stand = all_stand held (omega (arith, held.fits, c.scan_file.auto.starts)) }

pub returns : goal.returns
returns g c =
    let net = c.in_ok-sizes.ensures in
    fire_done net.1 _ c.if-m-sizes.false _ _ c.if-images-ne0.false c.if-answers-images.false (c.fire_list.ensures net.0 (rw c.if-m-sizes.false (held_front net.1 (omega (arith, net.1.fits, c.scan_file.auto.starts)))))
