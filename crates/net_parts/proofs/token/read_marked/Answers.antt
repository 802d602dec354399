use borrow.Author.Rules.{rules}
use mathlib.Core.Path.{ap, ◌∙◌}
use Rattle.std.specs.Prelude.{Ok}
use Rattle.std.proofs.lemmas.Result.{err_from_is_err_and}
use Rattle.net_parts.proofs.Tokening.{tokening_begins, tokening_goes, tokening_ends, tokening_stops}
use Rattle.net_parts.proofs.token.read_marked.Goals as goal

pub loop-token-init : goal.loop-token-init
loop-token-init c = tokening_begins _ _ (search rules) (search rules) c.requires

pub returns-in_err-token : goal.returns-in_err-token
returns-in_err-token c =
    let p = err_from_is_err_and c.from_residual.result c.from_residual.ensures.1 in
    rw (p.1, p.2) (tokening_stops c.loop-token.invariant _ c.token_at.ensures.is c.token_at.ensures.room c.in_err-token.was)

pub loop-token-preserved : goal.loop-token-preserved
loop-token-preserved c = rw c.store.ensures (tokening_goes c.loop-token.invariant _ c.token_at.ensures.is c.token_at.ensures.room (c.in_ok-token.was ∙ ap Ok c.in-Some.is))

pub returns : goal.returns
returns c = tokening_ends c.loop-token.invariant _ c.token_at.ensures.is c.token_at.ensures.room (c.in_ok-token.was ∙ ap Ok c.in_default.is)
