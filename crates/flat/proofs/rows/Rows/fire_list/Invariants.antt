use Rattle.std.proofs.Common.{◌≡◌, length}
use Rattle.reading.specs.Basics.{items}
use Rattle.firing.proofs.Running.{Running}
use Rattle.flat_file.specs.Flat.{Flat, fire_image}
use Rattle.flat_file.specs.internal.ReaderEnums.{FlatHeld}
use Rattle.flat.proofs.rows.Rows.fire_list.Given as goal

abbrev pub invariant-loop-i : goal.invariant-loop-i
invariant-loop-i g l =
    record {
      runs : (f : Flat) → FlatHeld l.self.file.now l.self.starts.now (length l.initial.m) (length l.self.starts.now) f
          → Running (fire_image f) (items 5 l.images) l.initial.m l.initial.answers l.m l.answers l.i;
      same : length l.m ≡ length l.initial.m;
    }
