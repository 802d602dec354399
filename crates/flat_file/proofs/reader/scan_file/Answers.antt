use Rattle.std.proofs.lemmas.Result.{err_from_is_err_and}
use Rattle.flat_file.proofs.Files.{not_opened, places_refused, rows_refused, not_closed, all_read}
use Rattle.flat_file.proofs.reader.scan_file.Goals as goal

pub returns-in_err-start : goal.returns-in_err-start
returns-in_err-start c =
    let p = err_from_is_err_and c.from_residual.result c.from_residual.ensures.1 in
    rw (p.1, p.2) (not_opened _ c.opens.ensures.is c.in_err-start.was)

pub returns-in_err-places : goal.returns-in_err-places
returns-in_err-places c =
    let p = err_from_is_err_and c.from_residual-in_err-places.result c.from_residual-in_err-places.ensures.1 in
    rw (p.1, p.2) (places_refused _ c.opens.ensures.is c.in_ok-start.was _ c.in_err-places.ensures)

pub returns-in_err-rows : goal.returns-in_err-rows
returns-in_err-rows c =
    let p = err_from_is_err_and c.from_residual-in_err-rows.result c.from_residual-in_err-rows.ensures.1 in
    rw (p.1, p.2) (rows_refused _ c.opens.ensures.is c.in_ok-start.was c.in_ok-places.ensures c.read_rows.new.starts _ c.in_err-rows.ensures)

pub returns-in_err-closes : goal.returns-in_err-closes
returns-in_err-closes c =
    let p = err_from_is_err_and c.from_residual-in_err-closes.result c.from_residual-in_err-closes.ensures.1 in
    rw (p.1, p.2) (not_closed _ c.opens.ensures.is c.in_ok-start.was c.in_ok-places.ensures c.in_ok-rows.ensures c.closes.ensures c.in_err-closes.was)

pub returns : goal.returns
returns c = all_read _ c.opens.ensures.is c.in_ok-start.was c.in_ok-places.ensures c.in_ok-rows.ensures c.closes.ensures c.in_ok-closes.was
