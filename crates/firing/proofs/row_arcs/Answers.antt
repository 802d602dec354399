use Rattle.std.proofs.Common.{◌≡◌, ◌-◌, arith}
use Rattle.firing.specs.internal.RowLists.{arcs_in}
use Rattle.firing.proofs.row_arcs.Goals as goal

pub returns : goal.returns
unfolding arcs_in
returns c = let e : c.args.ends.takes - 0 ≡ c.args.ends.takes = omega arith in rw e
