use mathlib.Core.Path.{sym, ◌∙◌}
use Rattle.coloured.proofs.Calling.{fire_12, fire_13, fire_14, fire_done}
use Rattle.coloured.proofs.engine.Orders.fire_with.Goals as goal

pub returns-then-marking-flat_places : goal.returns-then-marking-flat_places
returns-then-marking-flat_places g c =
    rw c.refused.ensures (fire_12 c.flat_places.ensures.known c.args.marking.now _ _ (λ e. c.if-marking-flat_places.true (e ∙ sym c.flat_places.ensures.is)))

pub returns-then-self-ne0 : goal.returns-then-self-ne0
returns-then-self-ne0 g c =
    rw c.refused-then-self-ne0.ensures (fire_13 c.flat_places.ensures.known c.args.marking.now (c.if-marking-flat_places.false ∙ c.flat_places.ensures.is) _ _ c.if-self-ne0.true)

pub returns-then-answers-self : goal.returns-then-answers-self
returns-then-answers-self g c =
    rw c.refused-then-answers-self.ensures (fire_14 c.flat_places.ensures.known c.args.marking.now (c.if-marking-flat_places.false ∙ c.flat_places.ensures.is) _ _ c.if-self-ne0.false c.if-answers-self.true)

pub returns : goal.returns
returns g c = fire_done c.flat_places.ensures.known c.args.marking.now (c.if-marking-flat_places.false ∙ c.flat_places.ensures.is) _ _ c.if-self-ne0.false c.if-answers-self.false c.fire_list.ensures
