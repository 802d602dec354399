use Rattle.std.specs.Prelude.{◌∷◌}
use mathlib.Core.Path.{sym, ap, ◌∙◌}
use Rattle.reading.specs.Basics.{[]}
use Rattle.reading.specs.Reading.{accepted}
use Rattle.firing.specs.Replies.{first_told}
use Rattle.bindings.specs.Replies.{bytes_of}
use Rattle.search.specs.Replies.{first_reply}
use Rattle.codes.specs.Codes.{returned, first_order_code}
use Rattle.codes.proofs.net_codes.give_first_order.Goals as goal

pub returns-in-Some : goal.returns-in-Some
returns-in-Some c = c.give.ensures [] (c.into.result ∷ []) ∙ ap (λ o. returned 1 (c.in-Ok.searched.tried ∷ 0 ∷ []) (o ∷ [])) c.into.ensures
    ∙ ap (λ found. first_order_code c.args.order.now (accepted (first_told bytes_of found c.in-Ok.searched.tried))) (sym c.in-Some.is)
    ∙ ap (λ r. first_order_code c.args.order.now (first_reply r)) (sym c.in-Ok.is)

pub returns-in-None : goal.returns-in-None
returns-in-None c = c.give-in-None.ensures [] (c.args.order.now ∷ []) ∙ ap (λ found. first_order_code c.args.order.now (accepted (first_told bytes_of found c.in-Ok.searched.tried))) (sym c.in-None.is)
    ∙ ap (λ r. first_order_code c.args.order.now (first_reply r)) (sym c.in-Ok.is)

pub returns-in-Err : goal.returns-in-Err
returns-in-Err c = c.give_refusal.ensures [] (c.args.order.now ∷ []) ∙ ap (λ r. first_order_code c.args.order.now (first_reply r)) (sym c.in-Err.is)
