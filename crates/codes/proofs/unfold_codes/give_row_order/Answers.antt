use Rattle.std.specs.Prelude.{◌∷◌, Ok}
use mathlib.Core.Path.{sym, ap, ◌∙◌}
use Rattle.reading.specs.Basics.{[]}
use Rattle.images.specs.Replies.{order_reply}
use Rattle.codes.specs.Codes.{returned, row_order_code}
use Rattle.codes.proofs.unfold_codes.give_row_order.Goals as goal

pub returns-in-Ok-Some : goal.returns-in-Ok-Some
returns-in-Ok-Some c = c.give.ensures [] (c.into.result ∷ []) ∙ ap (λ o. returned 1 (0 ∷ 0 ∷ []) (o ∷ [])) c.into.ensures
    ∙ ap (λ r. row_order_code c.args.order.now (order_reply r)) (sym (c.in-Ok-Some.is ∙ ap Ok (rw c.in-Ok-Some.is at c.in-Ok-Some.field-0-is)))

pub returns-in-Ok-None : goal.returns-in-Ok-None
returns-in-Ok-None c = c.give-in-Ok-None.ensures [] (c.args.order.now ∷ [])
    ∙ ap (λ r. row_order_code c.args.order.now (order_reply r)) (sym (c.in-Ok-None.is ∙ ap Ok (rw c.in-Ok-None.is at c.in-Ok-None.field-0-is)))

pub returns-in-Err : goal.returns-in-Err
returns-in-Err c = c.give_refusal.ensures [] (c.args.order.now ∷ []) ∙ ap (λ r. row_order_code c.args.order.now (order_reply r)) (sym c.in-Err.is)
