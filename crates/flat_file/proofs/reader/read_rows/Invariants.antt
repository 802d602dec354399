use Prim.Native.Nat.{◌-◌}
use lib.ListN.{length}
use Rattle.flat_file.proofs.Files.{RowsSoFar}
use Rattle.flat_file.proofs.reader.read_rows.Given as goal

abbrev pub invariant-loop-first : goal.invariant-loop-first
invariant-loop-first l = RowsSoFar l.file l.count l.start (length l.initial.starts) l.starts l.rows l.at

abbrev pub decreases-loop-first : goal.decreases-loop-first
decreases-loop-first l = length l.file - l.at
