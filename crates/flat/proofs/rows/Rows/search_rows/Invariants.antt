use Rattle.std.proofs.Common.{eqb, length}
use Rattle.reading.specs.Basics.{below}
use Rattle.firing.proofs.Running.{Searching}
use Rattle.flat_file.specs.Flat.{Flat, fire_row}
use Rattle.flat_file.specs.internal.ReaderEnums.{FlatHeld}
use Rattle.flat.proofs.rows.Rows.search_rows.Given as goal

abbrev pub invariant-loop-i : goal.invariant-loop-i
invariant-loop-i g l =
    (f : Flat) → FlatHeld l.self.file.now l.self.starts.now (length l.m) (length l.self.starts.now) f
    → Searching (λ j. eqb (fire_row f j l.m).answer 0) (below (length l.self.starts.now)) l.i
