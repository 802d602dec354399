use Rattle.std.proofs.Common.{arith, ◌∙◌}
use Rattle.net.proofs.Colours.{within}
use Rattle.net.proofs.Guards.{if_none, if_read}
use Rattle.net.proofs.read_guard_if.Goals as goal

pub returns-then-element-eq21 : goal.returns-then-element-eq21
returns-then-element-eq21 c places =
    let i = within c.args.scope.now.file.now c.args.at 20 (omega arith) in
    c.read_guard.ensures places ∙ if_read _ _ _ _ c.after.ensures i (omega arith)

pub returns : goal.returns
returns c places = if_none _ _ _ (λ e. omega arith)
