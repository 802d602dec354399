use mathlib.Core.Path.{ap, ◌∙◌}
use Rattle.std.specs.Prelude.{◌∷◌}
use Rattle.codes.specs.Codes.{returned}
use Rattle.codes.proofs.give.give_refusal.Goals as goal

pub returns : goal.returns
returns c = λ rest lent. c.give.ensures rest lent ∙ ap (λ k. returned 0 (k ∷ c.args.refusal.place ∷ rest) lent) c.number.ensures
