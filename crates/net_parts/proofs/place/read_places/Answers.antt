use borrow.Author.Rules.{rules}
use mathlib.Core.Path.{ap, ◌∙◌}
use Rattle.std.specs.Prelude.{Ok}
use Rattle.std.proofs.lemmas.Result.{err_from_is_err_and}
use Rattle.net_parts.proofs.Placing.{placing_begins, placing_goes, placing_ends, placing_stops}
use Rattle.net_parts.proofs.place.read_places.Goals as goal

pub loop-place-init : goal.loop-place-init
loop-place-init c = placing_begins _ _ _ _ c.args.starts.now (search rules) (search rules)

pub returns-in_err-place-clause-is : goal.returns-in_err-place-clause-is
returns-in_err-place-clause-is c =
    let p = err_from_is_err_and c.from_residual.result c.from_residual.ensures.1 in
    rw p.1 (λ v. rw p.2 (placing_stops c.loop-place.invariant _ c.place_at.ensures.is c.place_at.ensures.room c.in_err-place.was v))

pub loop-place-preserved : goal.loop-place-preserved
loop-place-preserved c = placing_goes c.loop-place.invariant _ c.place_at.ensures.is c.place_at.ensures.room (c.in_ok-place.was ∙ ap Ok c.in-Some.is)

pub returns-clause-is : goal.returns-clause-is
returns-clause-is c = placing_ends c.loop-place.invariant _ c.place_at.ensures.is c.place_at.ensures.room (c.in_ok-place.was ∙ ap Ok c.in_default.is)
