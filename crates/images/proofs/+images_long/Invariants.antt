use Rattle.reading.proofs.Once.{once}
use Rattle.images.proofs.+images_long.Given as goal

abbrev pub decreases-images_long : goal.decreases-images_long
decreases-images_long l = once l.again
