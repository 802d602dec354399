use Rattle.prepared.proofs.Accepted.{fitting}
use Rattle.prepared.proofs.fill.read_packed.Goals as goal

pub pack_arcs-requires : goal.pack_arcs-requires
pack_arcs-requires c =
    let held = c.in_ok-counts.ensures in (held.holds.started.few, held.holds.few_transitions, fitting held)

pub returns : goal.returns
returns c = record { slots = c.read_net.new.arcs; held = c.in_ok-counts.ensures; packs = c.pack_arcs.ensures }
