use Rattle.std.proofs.Common.{arith, [], sym, ◌∙◌}
use Rattle.firing.proofs.Agree.{none_kept}
use Rattle.firing.proofs.Rule.{answer_4, answer_5, answer_0}
use Rattle.firing.proofs.rest_answer.Goals as goal

pub returns-then-some_hinders : goal.returns-then-some_hinders
returns-then-some_hinders c proper none = answer_4 _ _ proper [] (none_kept c.args.m.now (λ p. omega (arith, c.type_inv.m p))) none (sym c.some_hinders.ensures ∙ c.if-some_hinders.true)

pub returns-then-some_spills : goal.returns-then-some_spills
returns-then-some_spills c proper none =
    answer_5 _ _ proper [] (none_kept c.args.m.now (λ p. omega (arith, c.type_inv.m p))) none (sym c.some_hinders.ensures ∙ c.if-some_hinders.false)
    (sym (c.some_spills.ensures _ proper.takes proper.puts) ∙ c.if-some_spills.true)

pub returns-else-some_spills : goal.returns-else-some_spills
returns-else-some_spills c proper none =
    answer_0 _ _ proper [] (none_kept c.args.m.now (λ p. omega (arith, c.type_inv.m p))) none (sym c.some_hinders.ensures ∙ c.if-some_hinders.false)
    (sym (c.some_spills.ensures _ proper.takes proper.puts) ∙ c.if-some_spills.false)
