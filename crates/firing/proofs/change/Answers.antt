use Rattle.std.proofs.Common.{◌≡◌, ℕ, List, set, get_or, arith, sym, ap, ◌∙◌}
use Rattle.firing.specs.Arcs.{Arc}
use Rattle.firing.specs.internal.Steps.{changed_by, changed}
use Rattle.firing.proofs.Passes.{change_on, change_past}
use Rattle.firing.proofs.change.Goals as goal

-- the count that was stored
stored : (f : ℕ → ℕ → ℕ) (a : Arc) (m : List ℕ) {m' : List ℕ} {p x r : ℕ} → m' ≡ set m p r → p ≡ a.place → x ≡ get_or m a.place 0 → r ≡ f x a.weight → m' ≡ changed_by f a m
stored f a m e p x r = cc

pub loop-arc-preserved : goal.loop-arc-preserved
loop-arc-preserved g c h f = ap (changed h _) (stored h _ _ c.store.ensures c.from.ensures c.count.ensures (f _ _ _ c.f-count.ensures)) ∙ sym (change_on h c.args.arcs.now c.loop-arc.m c.loop-arc.arc-index _ (omega arith)) ∙ c.loop-arc.invariant h f

pub returns : goal.returns
returns g c h f = sym (change_past h c.args.arcs.now _ _ (omega arith)) ∙ c.loop-arc.invariant h f
