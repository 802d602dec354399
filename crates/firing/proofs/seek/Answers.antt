use Rattle.std.proofs.Common.{rules, tests, leb}
use Rattle.std.proofs.lemmas.Iterator.{YieldsList-from_slice}
use Rattle.std.proofs.lemmas.Iterator.Search.{position_from_yields_List}
use Rattle.firing.proofs.Passes.{sought}
use Rattle.firing.proofs.seek.Goals as goal

pub returns : goal.returns
returns c =
    sought _ _
    (position_from_yields_List (λ a. leb c.args.p a.place) _ _ c.position-start.result c.position-start.ensures.ran (YieldsList-from_slice c.args.arcs.now cc) (λ x b q k. search (rules, tests)))
    c.unwrap_or.ensures
