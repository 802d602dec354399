use Rattle.bindings.proofs.Naming.{told_nothing, told_of}
use Rattle.images.proofs.Imaging.{no_binding, the_number}
use Rattle.images.proofs.image.RowTable.row_of.Goals as goal

pub returns-in-None : goal.returns-in-None
returns-in-None c = no_binding c.args.self.now.limits c.args.order.now (told_nothing c.args.self.now.drawing.now _ _ c.in-None.is c.name_order.ensures.told)

pub returns-in-Some : goal.returns-in-Some
returns-in-Some c = the_number c.args.self.now.limits c.args.order.now c.requires (told_of c.args.self.now.drawing.now _ _ c.in-Some.is c.name_order.ensures.told) c.row_at.ensures
