use Rattle.std.proofs.lemmas.Result.{err_from_is_err_and}
use mathlib.Core.Path.{◌∙◌}
use Rattle.flat_file.proofs.Files.{places_end, places_stop, place_more}
use Rattle.flat_file.proofs.reader.read_places.Goals as goal

pub returns-in_err-next : goal.returns-in_err-next
returns-in_err-next c =
    let p = err_from_is_err_and c.from_residual.result c.from_residual.ensures.1 in
    rw (p.1, p.2) (places_stop c.loop-next.invariant c.place_at.ensures.is c.place_at.ensures.room c.in_err-next.was)

pub loop-next-preserved : goal.loop-next-preserved
loop-next-preserved c = place_more c.loop-next.invariant c.place_at.ensures.is c.place_at.ensures.room (c.in_ok-next.was ∙ rw c.in-Some.is)

pub returns : goal.returns
returns c = places_end c.loop-next.invariant c.place_at.ensures.is c.place_at.ensures.room (c.in_ok-next.was ∙ rw c.in_default.is)
