use native.Mathlib.Omega.{arith}
use Rattle.flat_file.proofs.Appending.{next_arcs}
use Rattle.flat_file.proofs.write.write_row.Goals as goal

pub write_arcs-next-requires-2 : goal.write_arcs-next-requires-2
write_arcs-next-requires-2 c = omega (arith, next_arcs 0x52 c.args.arcs.takes.now c.write_arcs-next.ensures)

pub write_arcs-requires : goal.write_arcs-requires
write_arcs-requires c = omega (arith, next_arcs 0x52 c.args.arcs.takes.now c.write_arcs-next.ensures, next_arcs 0x53 c.args.arcs.puts.now c.write_arcs-next-2.ensures)
