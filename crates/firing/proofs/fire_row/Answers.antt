use Rattle.std.proofs.Common.{sym, ◌∙◌}
use Rattle.firing.proofs.Rule.{fires_3}
use Rattle.firing.proofs.fire_row.Goals as goal

pub returns-then-some_lacks : goal.returns-then-some_lacks
returns-then-some_lacks c proper = fires_3 _ _ proper _ (sym c.some_lacks.ensures ∙ c.if-some_lacks.true)
