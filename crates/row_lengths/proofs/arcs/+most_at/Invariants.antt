use Rattle.row_lengths.proofs.arcs.+most_at.Given as goal

abbrev pub decreases-most_at : goal.decreases-most_at
decreases-most_at l = l.left
