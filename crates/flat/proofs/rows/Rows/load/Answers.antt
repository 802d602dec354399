use Rattle.flat.proofs.rows.Rows.load.Goals as goal

pub returns-clause-is : goal.returns-clause-is
returns-clause-is g c n f held = let s = held.stands c.args.i c.requires c.requires in c.load_arcs.ensures.is n _ s.0 held.few_places s.1
