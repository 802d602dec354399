use Rattle.net.proofs.+read_colour.Given as goal

abbrev pub decreases-read_colour : goal.decreases-read_colour
decreases-read_colour l = l.left
