use native.Mathlib.Omega.{arith}
use mathlib.Core.Path.{ap}
use lib.ListN.{length}
use Rattle.firing.specs.internal.RowLists.{row_held}
use Rattle.flat_file.proofs.Written.{length-row}
use Rattle.row_bytes.proofs.RowBytes.{gives_held}
use Rattle.row_bytes.proofs.stretch.Stretch.write_bound.Goals as goal

pub write_row-requires : goal.write_row-requires
write_row-requires g c =
    let gives = gives_held c.args.self.now.known.limits c.requires.0 c.args.arcs.now c.load_row-ends.new.arcs c.load_row-ends.ensures.is (omega arith) c.row_arcs.ensures in
    omega (arith, c.requires.1, ap length gives, length-row (row_held c.row_arcs.result))

pub returns : goal.returns
returns g c = λ h. rw (gives_held c.args.self.now.known.limits h c.args.arcs.now c.load_row-ends.new.arcs c.load_row-ends.ensures.is (omega arith) c.row_arcs.ensures) c.write_row.ensures
