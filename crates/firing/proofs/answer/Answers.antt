use Rattle.std.proofs.Common.{sym, ap, ◌∙◌}
use Rattle.firing.proofs.Rule.{fires_3}
use Rattle.firing.proofs.answer.Goals as goal

pub returns-then-some_lacks : goal.returns-then-some_lacks
returns-then-some_lacks c proper = ap (λ f. f.answer) (fires_3 _ _ proper _ (sym c.some_lacks.ensures ∙ c.if-some_lacks.true))
