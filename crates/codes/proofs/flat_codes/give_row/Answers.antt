use mathlib.Core.Path.{sym, ap, ◌∙◌}
use Rattle.reading.specs.Basics.{[]}
use Rattle.reading.specs.Reading.{accepted}
use Rattle.firing.specs.Replies.{first_told}
use Rattle.flat.specs.Replies.{first_reply}
use Rattle.codes.specs.Codes.{first_row_code}
use Rattle.codes.proofs.flat_codes.give_row.Goals as goal

pub returns-in-Some : goal.returns-in-Some
returns-in-Some c = c.give.ensures [] [] ∙ ap (λ found. first_row_code (accepted (first_told (λ row. row) found c.in-Ok.searched.tried))) (sym c.in-Some.is)
    ∙ ap (λ r. first_row_code (first_reply r)) (sym c.in-Ok.is)

pub returns-in-None : goal.returns-in-None
returns-in-None c = c.give-in-None.ensures [] [] ∙ ap (λ found. first_row_code (accepted (first_told (λ row. row) found c.in-Ok.searched.tried))) (sym c.in-None.is)
    ∙ ap (λ r. first_row_code (first_reply r)) (sym c.in-Ok.is)

pub returns-in-Err : goal.returns-in-Err
returns-in-Err c = c.give_refusal.ensures [] [] ∙ ap (λ r. first_row_code (first_reply r)) (sym c.in-Err.is)
