use mathlib.Core.Path.{sym, ap, ◌∙◌}
use Rattle.reading.specs.Basics.{[]}
use Rattle.flat.specs.Replies.{sizes_reply}
use Rattle.codes.specs.Codes.{sizes_code}
use Rattle.codes.proofs.flat_codes.give_sizes.Goals as goal

pub returns-in-Ok : goal.returns-in-Ok
returns-in-Ok c = c.give.ensures [] [] ∙ ap (λ r. sizes_code (sizes_reply r)) (sym c.in-Ok.is)

pub returns-in-Err : goal.returns-in-Err
returns-in-Err c = c.give_refusal.ensures [] [] ∙ ap (λ r. sizes_code (sizes_reply r)) (sym c.in-Err.is)
