use Rattle.std.proofs.Common.{◌≡◌, false, true, eqb, arith, sym, ◌∙◌}
use Rattle.firing.proofs.Told.{fired_told}
use Rattle.firing.proofs.Running.{search_begin, below_step, below_found, below_none}
use Rattle.flat.proofs.Imaged.{row_loaded}
use Rattle.flat.proofs.rows.Rows.search_rows.Goals as goal

pub loop-i-init : goal.loop-i-init
loop-i-init g c = λ f held. search_begin _ _

pub loop-i-preserved : goal.loop-i-preserved
loop-i-preserved g c = λ f held.
    let told = sym (fired_told _) ∙ sym c.eq.ensures ∙ c.if-eq.false in
    below_step _ _ (c.loop-i.invariant f held) c.loop-i-test.true
    (row_loaded f _ c.loop-i.i (λ x. eqb x.answer 0 ≡ false) (omega (arith, held.rows_are)) c.row_arcs.ensures (c.load-ends.ensures.is _ f held) (λ p. rw (c.answer.ensures p) at told))

pub returns-then-eq : goal.returns-then-eq
returns-then-eq g c f held =
    let told = sym (fired_told _) ∙ sym c.eq.ensures ∙ c.if-eq.true in
    below_found _ _ (c.loop-i.invariant f held) c.loop-i-test.true
    (row_loaded f _ c.loop-i.i (λ x. eqb x.answer 0 ≡ true) (omega (arith, held.rows_are)) c.row_arcs.ensures (c.load-ends.ensures.is _ f held) (λ p. rw (c.answer.ensures p) at told))

pub returns : goal.returns
returns g c f held = below_none _ _ (c.loop-i.invariant f held) c.loop-i-test.false
