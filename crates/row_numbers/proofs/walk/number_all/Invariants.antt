use lib.ListN.{length}
use Rattle.prepared.specs.internal.Drawn.{net_of}
use Rattle.row_numbers.proofs.Tabled.{Numbered}
use Rattle.row_numbers.proofs.walk.number_all.Given as goal

abbrev pub invariant-loop-t : goal.invariant-loop-t
invariant-loop-t l = Numbered (net_of l.drawing) l.drawing.plan (length l.initial.numbers) l.starts l.numbers l.t l.base l.count
