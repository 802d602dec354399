use Rattle.std.proofs.Common.{rules, tests, ◌∙◌}
use Rattle.std.proofs.lemmas.Iterator.{YieldsList-from_slice}
use Rattle.std.proofs.lemmas.Iterator.Search.{any_from_yields_List}
use Rattle.firing.specs.internal.Steps.{hindering}
use Rattle.firing.proofs.Passes.{any_is}
use Rattle.firing.proofs.some_hinders.Goals as goal

pub returns : goal.returns
returns c = any_from_yields_List (hindering c.args.m.now) _ _ c.any.result c.any.ensures.ran (YieldsList-from_slice c.args.hinders.now cc) (λ x b q k. search (rules, tests)) ∙ any_is _ _
