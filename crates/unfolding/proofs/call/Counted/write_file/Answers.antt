use native.Mathlib.Omega.{arith}
use Rattle.flat_file.proofs.Appending.{next_places}
use Rattle.row_numbers.proofs.Marking.{blank_words}
use Rattle.unfolding.proofs.Unfolds.{file_written, has_space, call_short, call_whole}
use Rattle.unfolding.proofs.call.Counted.write_file.Goals as goal

pub invariant_of-net-clause-ruled : goal.invariant_of-net-clause-ruled
invariant_of-net-clause-ruled g c = (c.mark_all.ensures (blank_words 2048)).0

pub fits-requires : goal.fits-requires
fits-requires g c = (omega arith, (omega arith, (c.mark_all.ensures (blank_words 2048)).1))

pub returns-then-not-fits : goal.returns-then-not-fits
returns-then-not-fits g c = rw c.refused.ensures (call_short c.initial_counts-initial.ensures.known c.initial_counts-initial.ensures.is c.args.out.now c.fits.ensures c.if-not-fits.true)

pub write_places-next-requires : goal.write_places-next-requires
write_places-next-requires g c = omega (arith, c.write_head-next.ensures.next_is, has_space c.initial_counts-initial.ensures.known c.initial_counts-initial.ensures.is c.args.out.now c.fits.ensures c.if-not-fits.false)

pub write_all-next-requires : goal.write_all-next-requires
write_all-next-requires g c =
    omega (arith, next_places _ c.write_places-next.ensures, c.write_head-next.ensures.next_is, has_space c.initial_counts-initial.ensures.known c.initial_counts-initial.ensures.is c.args.out.now c.fits.ensures c.if-not-fits.false)

pub write_end-requires : goal.write_end-requires
write_end-requires g c =
    omega (
      arith,
      c.write_all-next.ensures.next_is,
      next_places _ c.write_places-next.ensures,
      c.write_head-next.ensures.next_is,
      has_space c.initial_counts-initial.ensures.known c.initial_counts-initial.ensures.is c.args.out.now c.fits.ensures c.if-not-fits.false,
    )

pub returns : goal.returns
returns g c =
    let ready = c.initial_counts-initial.ensures.known in
    let counts = c.initial_counts-initial.ensures.is in
    call_whole ready counts c.args.out.now c.fits.ensures c.if-not-fits.false (file_written ready counts c.write_head-next.ensures c.write_places-next.ensures c.write_all-next.ensures c.write_end.ensures)
