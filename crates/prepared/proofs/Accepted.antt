-- From the net reader's promise to what the calls know. Assumes nothing.
use Rattle.std.specs.Prelude.{◌+◌, ◌*◌}
use mathlib.Core.Path.{◌≡◌, subst}
use Prim.Native.Nat.{◌≤◌, ◌<◌}
use native.Mathlib.Omega.{arith}
use Rattle.reading.specs.Basics.{ℕ, option_map, List, length, get_or}
use Rattle.net.specs.Net.{arc_on, place_at, transition_at}
use Rattle.net_file.specs.internal.NetTables.{drawn, NetHeld}
use Rattle.net_file.specs.declared.file.Tables.{Tables}
use Rattle.net_file.specs.declared.file.Counts.{Counts}
use Rattle.net_file.proofs.Limits.{short}
use Rattle.prepared.specs.internal.Packed.{SlotsFit}
use Rattle.prepared.proofs.Tabled.{slot_within}

-- the slots are places of a short file
pub fitting : {s : List ℕ} {tables : Tables} {arcs initial : List ℕ} {c : Counts} → NetHeld s tables arcs initial c → SlotsFit arcs c.places c.transitions
fitting {s} {arcs = arcs} held t k lt of_three p less =
    let n = held.value in
    let h = held.holds in
    let e : t * 96 + (k * 32 + p) ≡ t * 96 + k * 32 + p = omega arith in
    let low : get_or arcs (t * 96 + (k * 32 + p)) 0 ≤ length s = slot_within s (drawn n) (place_at n p) (option_map (λ a. a.expression) (arc_on (transition_at n t).arcs (0x16 + k) p))
    ((h.holds t (omega (arith, h.transitions_are))).arced k p of_three (omega (arith, h.started.are))) in
    subst (λ i. get_or arcs i 0 < 134217728) e (omega (arith, short s n held.read))
