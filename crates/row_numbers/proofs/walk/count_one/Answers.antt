use mathlib.Core.Path.{ap, ◌∙◌}
use mir.Val.{bool_byte}
use Rattle.row_numbers.proofs.Tabled.{effect-told, one_if}
use Rattle.row_numbers.proofs.walk.count_one.Goals as goal

pub returns-clause-is : goal.returns-clause-is
returns-clause-is c = λ i binds. c.from.ensures ∙ ap bool_byte (effect-told _ _ i (c.has_effect.ensures _ binds)) ∙ one_if _
