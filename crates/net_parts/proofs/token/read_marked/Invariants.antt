use Prim.Native.Nat.{◌-◌}
use lib.ListN.{length}
use Rattle.net_parts.proofs.Tokening.{TokenLoop}
use Rattle.net_parts.proofs.token.read_marked.Given as goal

abbrev pub invariant-loop-token : goal.invariant-loop-token
invariant-loop-token l = TokenLoop l.file l.starts.starts.now l.starts.places l.starts.total l.start (length l.initial.initial') l.initial' l.named l.at

abbrev pub decreases-loop-token : goal.decreases-loop-token
decreases-loop-token l = length l.file - l.at
