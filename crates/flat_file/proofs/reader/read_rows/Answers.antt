use Rattle.std.proofs.lemmas.Result.{err_from_is_err_and}
use mathlib.Core.Path.{◌∙◌}
use Rattle.flat_file.proofs.Files.{rows_end, rows_stop, row_stop, row_more}
use Rattle.flat_file.proofs.reader.read_rows.Goals as goal

pub returns-in_err-first : goal.returns-in_err-first
returns-in_err-first c =
    let p = err_from_is_err_and c.from_residual.result c.from_residual.ensures.1 in
    rw (p.1, p.2) (rows_stop c.loop-first.invariant c.row_at.ensures.is c.row_at.ensures.room c.in_err-first.was)

pub returns-in_err-at : goal.returns-in_err-at
returns-in_err-at c =
    let p = err_from_is_err_and c.from_residual-in_err-at.result c.from_residual-in_err-at.ensures.1 in
    rw (p.1, p.2) (row_stop c.loop-first.invariant c.row_at.ensures.is c.row_at.ensures.room (c.in_ok-first.was ∙ rw c.in-Some.is) _ c.in_err-at.ensures)

pub loop-first-preserved : goal.loop-first-preserved
loop-first-preserved c = rw c.store.ensures (row_more c.loop-first.invariant c.row_at.ensures.is c.row_at.ensures.room (c.in_ok-first.was ∙ rw c.in-Some.is) c.in_ok-at.ensures)

pub returns : goal.returns
returns c = rows_end c.loop-first.invariant c.row_at.ensures.is c.row_at.ensures.room (c.in_ok-first.was ∙ rw c.in_default.is)
