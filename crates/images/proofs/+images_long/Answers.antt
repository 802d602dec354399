use Rattle.row_numbers.proofs.Tabled.{entries_few}
use Rattle.images.proofs.+images_long.Goals as goal

pub images_by-requires-clause-enough : goal.images_by-requires-clause-enough
images_by-requires-clause-enough t c = entries_few c.file.ensures.known
