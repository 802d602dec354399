use mathlib.Core.List.{[]}
use Prim.Native.Nat.{◌-◌}
use lib.ListN.{length}
use Rattle.reading.specs.Reading.{whole}
use Rattle.reading.proofs.Parts.{Filled}
use Rattle.net_parts.specs.internal.Steps.{list_part}
use Rattle.net_parts.proofs.list.read_list.Given as goal

abbrev pub invariant-loop-value : goal.invariant-loop-value
invariant-loop-value l =
    let part = list_part l.command l.initial.values.start l.initial.values.end (length l.initial.list) l.file in
    Filled l.file part (length l.initial.list) (whole l.file part [] l.start) l.list l.count l.at

abbrev pub decreases-loop-value : goal.decreases-loop-value
decreases-loop-value l = length l.initial.list - l.count
