use native.Mathlib.Omega.{arith}
use mathlib.Core.Path.{ap, ◌∙◌}
use Rattle.std.specs.Prelude.{Ok}
use Rattle.std.proofs.lemmas.Result.{err_from_is_err_and}
use Rattle.reading.proofs.Parts.{fill_goes, fill_ends, fill_stops}
use Rattle.net_parts.specs.internal.Steps.{list_step}
use Rattle.net_parts.proofs.list.read_list.Goals as goal

pub returns-in_err-value-clause-is : goal.returns-in_err-value-clause-is
returns-in_err-value-clause-is c =
    let p = err_from_is_err_and c.from_residual.result c.from_residual.ensures.1 in let step = rw (c.loop-value.invariant.sized) at c.operand_at.ensures in
    rw (p.1, p.2) (fill_stops c.loop-value.invariant (rw c.in_err-value.was at step.room) (λ l e. step.is l e ∙ ap (list_step l c.loop-value.at) c.in_err-value.was))

pub loop-value-preserved : goal.loop-value-preserved
loop-value-preserved c =
    let step = rw (c.loop-value.invariant.sized) at c.operand_at.ensures in let q = c.in_ok-value.was ∙ ap Ok c.in-Some.is in let room = rw q at step.room in
    fill_goes c.loop-value.invariant (λ l e. step.is l e ∙ ap (list_step l c.loop-value.at) q) room.0 (omega arith) room.1

pub returns-clause-is : goal.returns-clause-is
returns-clause-is c =
    let step = rw (c.loop-value.invariant.sized) at c.operand_at.ensures in let q = c.in_ok-value.was ∙ ap Ok c.in_default.is in
    fill_ends c.loop-value.invariant (λ l e. step.is l e ∙ ap (list_step l c.loop-value.at) q)
