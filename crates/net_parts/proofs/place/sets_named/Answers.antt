use borrow.Author.Rules.{rules}
use borrow.Author.Tests.{ne_eqb}
use Rattle.net_parts.specs.internal.Steps.{sets_named}
use Rattle.net_parts.proofs.place.sets_named.Goals as goal

pub returns-in-18 : goal.returns-in-18
unfolding sets_named
returns-in-18 c = search rules

pub returns-in-19 : goal.returns-in-19
unfolding sets_named
returns-in-19 c = search rules

pub returns-in_default : goal.returns-in_default
unfolding sets_named
returns-in_default c = search (rules, ne_eqb)
