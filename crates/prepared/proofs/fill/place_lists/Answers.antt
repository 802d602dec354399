use Rattle.std.proofs.Common.{◌*◌, ◌+◌, ◌≤◌, length, take, sym, ◌∙◌, arith, length-take}
use Rattle.std.proofs.lemmas.Grind.{common_steps}
use Rattle.plan.proofs.Sections.{placed_same, own_at}
use Rattle.prepared.proofs.Filling.{lists_placed}
use Rattle.prepared.proofs.fill.place_lists.Goals as goal

-- each field by itself, so that an entry that is written wrong is refused at the field that tells of it
pub returns-clause-placed : goal.returns-clause-placed
returns-clause-placed c =
    let few : length (take c.args.counts.now.sets c.args.tables.now.sizes) ≤ 16 = omega (arith, length-take c.args.counts.now.sets c.args.tables.now.sizes) in
    let few' : length (take c.args.counts.now.variables c.args.tables.now.vars) ≤ 32 = omega (arith, length-take c.args.counts.now.variables c.args.tables.now.vars) in
    let all = lists_placed few few' c.list_variables-own.ensures.long (placed_same c.place_list.ensures) (placed_same c.place_list-2.ensures) c.place_heads.ensures (placed_same c.place_list-3.ensures)
    c.list_variables-own.ensures.owned in
    record {
      sets = λ i lt. grind (arith, common_steps, all.sets i lt, few);
      variables = λ i lt. grind (arith, common_steps, all.variables i lt, few');
      uses = λ t lt. grind (arith, common_steps, all.uses t lt);
      guards = λ t lt. grind (arith, common_steps, all.guards t lt);
      owned = λ n es ev l are used. record {
        slot = λ t k lt less. own_at _ (t * 4 + k) ∙ grind (arith, common_steps, sym (own_at _ (t * 4 + k)) ∙ (all.owned n es ev l are used).slot t k lt less);
      };
      behind = λ i le. grind (arith, common_steps, all.behind i le);
    }
