use Rattle.std.proofs.Common.{ap, arith, ◌∙◌}
use Rattle.std.proofs.lemmas.Result.{err_from_is_err_and}
use Rattle.net.specs.internal.ReaderEnums.{answer_of}
use Rattle.net.proofs.Guards.{guard_past, guard_stray, guard_deep, true_read, opposite_read, compared_read, two_read, two_first, two_second, two_whole}
use Rattle.net.proofs.+read_guard.Goals as goal
use Rattle.net.proofs.+read_guard.Goals.{then-b-lt32-via-then-b-lt32, then-b-lt32-via-else-b-lt32+then-b-gt37}

pub returns-then-scope-at : goal.returns-then-scope-at
returns-then-scope-at t c places = ap answer_of c.refused.ensures ∙ guard_past _ _ _ _ c.if-scope-at.true

pub returns-then-b-lt32 : goal.returns-then-b-lt32
returns-then-b-lt32 t c places =
    ap answer_of c.refused-then-b-lt32.ensures ∙ guard_stray _ _ _ _ (omega arith) (λ b low high e. omega arith)

pub returns-then-left-eq0 : goal.returns-then-left-eq0
returns-then-left-eq0 t c places =
    ap answer_of c.refused-then-left-eq0.ensures ∙ guard_deep _ _ _ _ (omega arith) (omega arith) (omega arith) (omega arith)

pub returns-in_err-a-in-34 : goal.returns-in_err-a-in-34
returns-in_err-a-in-34 t c places =
    let p = err_from_is_err_and c.from_residual-in_err-a-in-34.result c.from_residual-in_err-a-in-34.ensures.1 in
    rw (p.1, p.2) (two_read _ _ _ _ (omega arith) (omega arith) _ c.after-next.ensures (omega arith) (omega arith)
    (λ join joins. two_first _ _ _ join joins _ (c.in_err-a-in-34.ensures places)))

pub returns-in_err-c-in-34 : goal.returns-in_err-c-in-34
returns-in_err-c-in-34 t c places =
    let p = err_from_is_err_and c.from_residual-in_err-c-in-34.result c.from_residual-in_err-c-in-34.ensures.1 in
    rw (p.1, p.2) (two_read _ _ _ _ (omega arith) (omega arith) _ c.after-next.ensures (omega arith) (omega arith)
    (λ join joins. two_second _ _ _ join joins _ (c.in_ok-a-in-34.ensures places) (c.in_err-c-in-34.ensures places)))

pub returns-in-32 : goal.returns-in-32
returns-in-32 t c places = true_read _ _ _ _ (omega arith) (omega arith) _ c.after-next.ensures c.in-32.is

pub returns-in_err-a-in-33 : goal.returns-in_err-a-in-33
returns-in_err-a-in-33 t c places =
    let p = err_from_is_err_and c.from_residual.result c.from_residual.ensures.1 in
    rw (p.1, p.2) (c.in_err-a-in-33.ensures places ∙ opposite_read _ _ _ _ (omega arith) (omega arith) _ c.after-next.ensures c.in-33.is)

pub returns-in_ok-a-in-33 : goal.returns-in_ok-a-in-33
returns-in_ok-a-in-33 t c places =
    c.in_ok-a-in-33.ensures places ∙ opposite_read _ _ _ _ (omega arith) (omega arith) _ c.after-next.ensures c.in-33.is

pub returns-in_ok-c-in-34 : goal.returns-in_ok-c-in-34
returns-in_ok-c-in-34 t c places =
    two_read _ _ _ _ (omega arith) (omega arith) _ c.after-next.ensures (omega arith) (omega arith)
    (λ join joins. two_whole _ _ _ join joins _ (c.in_ok-a-in-34.ensures places) (c.in_ok-c-in-34.ensures places))

pub returns-in_default : goal.returns-in_default
returns-in_default t c places =
    compared_read _ _ _ _ (omega arith) (omega arith) _ c.after-next.ensures (omega arith) (omega arith)
    (c.compared.ensures.is_equal places) (c.compared.ensures.is_less places)
