use mathlib.Core.Path.{sym, ap, ◌∙◌}
use Rattle.reading.specs.Basics.{[]}
use Rattle.reading.specs.Refusals.{replied}
use Rattle.codes.specs.Codes.{count_code}
use Rattle.codes.proofs.give.give_count.Goals as goal

pub returns-in-Ok : goal.returns-in-Ok
returns-in-Ok c = λ lent. c.give.ensures [] lent ∙ ap (λ r. count_code (replied (λ count. count) r) lent) (sym c.in-Ok.is)

pub returns-in-Err : goal.returns-in-Err
returns-in-Err c = λ lent. c.give_refusal.ensures [] lent ∙ ap (λ r. count_code (replied (λ count. count) r) lent) (sym c.in-Err.is)
