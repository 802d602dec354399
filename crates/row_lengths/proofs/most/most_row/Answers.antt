use Rattle.prepared.proofs.Known.{its_limits}
use Rattle.row_lengths.proofs.MostRows.{row-most}
use Rattle.row_lengths.proofs.most.most_row.Goals as goal

pub returns-clause-is : goal.returns-clause-is
returns-clause-is c = row-most _ (its_limits c.most_kind-takes.ensures.inside.0) _ c.most_kind-takes.ensures.inside.1 c.most_kind-takes.ensures.is c.most_kind-puts.ensures.is c.most_kind-hinders.ensures.is
