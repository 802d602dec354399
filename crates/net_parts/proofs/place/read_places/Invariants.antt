use Prim.Native.Nat.{◌-◌}
use Rattle.net_parts.proofs.Placing.{Placing}
use Rattle.net_parts.proofs.place.read_places.Given as goal

abbrev pub invariant-loop-place : goal.invariant-loop-place
invariant-loop-place l = Placing l.file l.sets l.start l.kinds l.starts l.count l.total l.at

abbrev pub decreases-loop-place : goal.decreases-loop-place
decreases-loop-place l = 32 - l.count
