use native.Mathlib.Omega.{arith}
use mathlib.Core.Path.{sym, ◌∙◌}
use lib.ListN.{length}
use Rattle.net_transitions.proofs.Spaces.{product_begins, product_in, product_out, product-fits, product_ends, counted_in, counted_kept}
use Rattle.net.specs.internal.ReaderEnums.{member}
use Rattle.net_transitions.proofs.space.bindings_of.Goals as goal
use Rattle.net_transitions.proofs.space.bindings_of.Goals.{then-has, else-has}

pub returns-then-count_of-gt4-clause-few : goal.returns-then-count_of-gt4-clause-few
returns-then-count_of-gt4-clause-few c = λ n p es ev le eb few. absurd (omega (arith, counted_in p c.count_of.ensures eb (rw ev at le), rw ev at few))

pub loop-v-init : goal.loop-v-init
loop-v-init c = (omega arith, product_begins _ _)

pub overflow_mul-total : goal.overflow_mul-total
overflow_mul-total c = omega (arith, product-fits (product_in c.loop-v.invariant.1 (sym c.if-has.true ∙ c.has.ensures) c.size_of-total.ensures.is c.size_of-total.ensures.small) (length c.args.scope.now.vars.now) (omega arith) (omega (arith, c.count_of.ensures ∙ counted_kept (member c.args.uses) (length c.args.scope.now.vars.now))))

pub loop-v-preserved : goal.loop-v-preserved
loop-v-preserved c = (omega arith, elim c.if-has.branch [ then-has w ↦ rw w.total-is (product_in c.loop-v.invariant.1 (sym w.if-has.true ∙ c.has.ensures) w.size_of-total.ensures.is w.size_of-total.ensures.small) | else-has w ↦ rw w.total-is (product_out c.loop-v.invariant.1 (sym w.if-has.false ∙ c.has.ensures)) ])

pub returns : goal.returns
returns c = record { few = (λ n p es ev le eb few. product_ends c.args.scope.now.sizes.now c.args.scope.now.vars.now c.loop-v.invariant.1 (omega arith) n p es ev le eb); many = (λ p le eb many. absurd (omega (arith, counted_in p c.count_of.ensures eb le))); small = product-fits c.loop-v.invariant.1 _ c.loop-v.invariant.0 (omega (arith, c.count_of.ensures ∙ counted_kept (member c.args.uses) (length c.args.scope.now.vars.now))) }
