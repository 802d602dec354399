use mathlib.Core.Path.{◌≡◌}
use Prim.Native.Nat.{◌*◌}
use Rattle.prepared.specs.internal.Drawn.{net_of}
use Rattle.images.proofs.Imaging.{Imaging}
use Rattle.images.proofs.image.images_by.Given as goal

abbrev pub invariant-loop-i : goal.invariant-loop-i
invariant-loop-i g l = (l.next ≡ l.i * 5) × Imaging (net_of l.fn.drawing) l.orders l.initial.out l.out l.i l.next
