use Rattle.firing.proofs.Passes.{weight_none, weight_here, weight_above}
use Rattle.firing.proofs.weight_at.Goals as goal

pub returns-in-len1-up : goal.returns-in-len1-up
returns-in-len1-up c n r = weight_here _ _ _ c.in-len1-up.len_at_least c.if-arc-p.true

pub returns-in_default : goal.returns-in_default
returns-in_default c n r = weight_none _ _ c.in_default.len_below

pub returns-in_default-2 : goal.returns-in_default-2
returns-in_default-2 c n r = weight_above _ _ _ r c.if-arc-p.false
