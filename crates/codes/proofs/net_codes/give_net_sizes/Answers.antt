use Rattle.std.specs.Prelude.{◌∷◌}
use mathlib.Core.Path.{sym, ap, ◌∙◌}
use Rattle.reading.specs.Basics.{[]}
use Rattle.net_reader.specs.Replies.{net_reply}
use Rattle.codes.specs.Codes.{net_code}
use Rattle.codes.proofs.net_codes.give_net_sizes.Goals as goal

pub returns-in-Ok : goal.returns-in-Ok
returns-in-Ok c = c.give.ensures (_ ∷ []) [] ∙ ap (λ r. net_code (net_reply r)) (sym c.in-Ok.is)

pub returns-in-Err : goal.returns-in-Err
returns-in-Err c = c.give_refusal.ensures (0 ∷ []) [] ∙ ap (λ r. net_code (net_reply r)) (sym c.in-Err.is)
