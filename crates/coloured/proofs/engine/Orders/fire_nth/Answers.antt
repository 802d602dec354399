use borrow.Author.Rules.{rules}
use mathlib.Core.Path.{ap, ◌∙◌}
use Rattle.reading.specs.Basics.{[]}
use Rattle.firing.specs.Firing.{fire}
use Rattle.firing.specs.Arcs.{weights}
use Rattle.prepared.specs.internal.Drawn.{net_of}
use Rattle.rows.proofs.Fires.{no_name, names}
use Rattle.coloured.proofs.engine.Orders.fire_nth.Goals as goal

pub returns-in_default : goal.returns-in_default
returns-in_default g c = no_name (net_of c.args.self.drawing.now) _ _ c.in_default.ensures.told

pub returns-in-Ok : goal.returns-in-Ok
returns-in-Ok g c =
    let it = c.in-Some.ensures.told in
    let row = (rw c.transition.ensures at c.in-Ok.ensures.told) _ it.binds (search rules) c.requires.sized in
    let fires = c.fire_rest.ensures (rw c.row_arcs.ensures row.proper) (rw (ap (λ r. r.takes) c.row_arcs.ensures) row.there) in
    fires ∙ ap (λ r. fire [] (weights r) c.args.m.now) c.row_arcs.ensures ∙ row.fires ∙ names (net_of c.args.self.drawing.now) _ _ it.is

pub returns-in-Err : goal.returns-in-Err
returns-in-Err g c =
    let it = c.in-Some.ensures.told in
    let early = (rw c.transition.ensures at c.in-Err.ensures.told) _ it.binds (search rules) c.requires.sized in
    early.2 ∙ names (net_of c.args.self.drawing.now) _ _ it.is
