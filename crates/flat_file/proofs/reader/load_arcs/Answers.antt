use native.Mathlib.Omega.{arith}
use Rattle.flat_file.proofs.Arcs.{load_begin, load_end, load_inside, load_room, few, load_more}
use Rattle.flat_file.proofs.reader.load_arcs.Goals as goal

pub loop-kind-init : goal.loop-kind-init
loop-kind-init c = load_begin _ _ _ c.requires.file_in_bounds

pub arc_in-requires : goal.arc_in-requires
arc_in-requires c = load_inside c.loop-kind.invariant c.requires.arcs_stand c.in-Some.kind c.in-Some.ensures

pub bounds-arcs-ends : goal.bounds-arcs-ends
bounds-arcs-ends c = load_room c.loop-kind.invariant c.requires.arcs_stand c.in-Some.kind c.in-Some.ensures

pub later_ends-ends-requires : goal.later_ends-ends-requires
later_ends-ends-requires c = omega (arith, few c.loop-kind.invariant c.requires.arcs_stand c.in-Some.kind c.in-Some.ensures)

pub loop-kind-preserved : goal.loop-kind-preserved
loop-kind-preserved c = rw (c.arc_in.ensures, c.later_ends-ends.ensures) (load_more c.loop-kind.invariant c.requires.arcs_stand c.in-Some.kind c.in-Some.ensures)

pub returns-clause-is : goal.returns-clause-is
returns-clause-is c = load_end c.loop-kind.invariant c.in_default.ensures
