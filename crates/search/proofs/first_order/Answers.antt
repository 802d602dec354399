use Rattle.std.proofs.lemmas.Result.{err_from_is_err_and}
use mathlib.Core.Path.{sym, ◌∙◌}
use Rattle.search.proofs.Calling.{no_first, first_12, first_is_lem}
use Rattle.search.proofs.first_order.Goals as goal

pub returns-in_err-drawing : goal.returns-in_err-drawing
returns-in_err-drawing c =
    let p = err_from_is_err_and c.from_residual.result c.from_residual.ensures.1 in
    rw (p.1, p.2) (no_first _ c.in_err-drawing.ensures _)

pub returns-then-marking-flat_places : goal.returns-then-marking-flat_places
returns-then-marking-flat_places c = rw c.refused.ensures (first_12 c.args.net.now c.in_ok-drawing.ensures.1 c.args.marking.now (λ e. c.if-marking-flat_places.true (e ∙ sym c.flat_places.ensures.is)))

pub returns : goal.returns
returns c = first_is_lem c.args.net.now c.in_ok-drawing.ensures.1 c.args.marking.now (c.if-marking-flat_places.false ∙ c.flat_places.ensures.is) c.first_on.ensures
