use Rattle.std.proofs.Common.{arith}
use Rattle.std.proofs.lemmas.Result.{err_from_is_err_and}
use Rattle.flat.proofs.Standing.{held_front, all_stand, front_long}
use Rattle.flat.proofs.Calling.{no_first, first_12, first_is}
use Rattle.flat.proofs.first_sized.Goals as goal

pub returns-in_err-sizes : goal.returns-in_err-sizes
returns-in_err-sizes g c = let p = err_from_is_err_and c.from_residual.result c.from_residual.ensures.1 in rw (p.1, p.2) (no_first _ c.in_err-sizes.ensures _)

pub returns-then-m-sizes : goal.returns-then-m-sizes
returns-then-m-sizes g c = rw c.refused.ensures (first_12 c.in_ok-sizes.ensures.1 _ c.if-m-sizes.true)

pub invariant_of-rows : goal.invariant_of-rows
invariant_of-rows g c =
    let held = c.in_ok-sizes.ensures.1 in
    record { few_places = held.few_places; few_arcs = c.requires.few_arcs.0; all_stand = all_stand held (omega (arith, held.fits, c.scan_file.auto.starts)) }

pub returns : goal.returns
returns g c =
    let net = c.in_ok-sizes.ensures in
    first_is net.1 _ c.if-m-sizes.false (front_long net.1 (omega (arith, net.1.fits, c.scan_file.auto.starts))) (c.search_rows.ensures net.0 (rw c.if-m-sizes.false (held_front net.1 (omega (arith, net.1.fits, c.scan_file.auto.starts)))))
