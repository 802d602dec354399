use Rattle.std.proofs.Common.{◌≤◌, length, refl, ap, arith}
use Rattle.prepared.proofs.Listing.{free_begins, free_goes, rows_go}
use Rattle.prepared.proofs.own.list_variables.Goals as goal

pub loop-t-init : goal.loop-t-init
loop-t-init c = (refl, λ few i le. free_begins 128 i, λ n es ev l e used s k less. absurd (omega arith))

pub loop-t-preserved : goal.loop-t-preserved
loop-t-preserved c = (
  c.type_inv.own,
  λ few. free_goes _ (c.list_slots.ensures few) (c.loop-t.invariant.1 few),
  λ n es ev l e used.
      let few : length c.args.vars.now ≤ 32 = rw ev at l.variables in
      rows_go n c.args.heads.now es ev l used _ (omega (arith, e)) (ap (λ h. h.uses) c.element.ensures) (c.list_slots.ensures few) (c.loop-t.invariant.1 few) (c.loop-t.invariant.2 n es ev l e used),
)
