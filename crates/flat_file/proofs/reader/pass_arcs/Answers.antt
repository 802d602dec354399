use Rattle.std.proofs.lemmas.Result.{err_from_is_err_and}
use mathlib.Core.Path.{◌∙◌}
use Rattle.flat_file.proofs.Arcs.{arcs_begin, pass_end, pass_stop, pass_more}
use Rattle.flat_file.proofs.reader.pass_arcs.Goals as goal

pub loop-read-init : goal.loop-read-init
loop-read-init c = (_, arcs_begin _ _ _)

pub returns-in_err-read : goal.returns-in_err-read
returns-in_err-read c =
    let p = err_from_is_err_and c.from_residual.result c.from_residual.ensures.1 in
    rw (p.1, p.2) (pass_stop c.loop-read.invariant.1 c.requires c.arc_at.ensures.is c.arc_at.ensures.room c.in_err-read.was)

pub loop-read-preserved : goal.loop-read-preserved
loop-read-preserved c = rw c.key-least.ensures (_, pass_more c.loop-read.invariant.1 c.requires c.arc_at.ensures.is c.arc_at.ensures.room {read = c.in-Some.read} (c.in_ok-read.was ∙ rw c.in-Some.is))

pub returns : goal.returns
returns c = pass_end c.loop-read.invariant.1 c.requires c.arc_at.ensures.is c.arc_at.ensures.room (c.in_ok-read.was ∙ rw c.in_default.is)
