use Rattle.std.proofs.Common.{rules}
use Rattle.net.specs.internal.ReaderEnums.{entry_told}
use Rattle.net.proofs.Shut.{commands}
use Rattle.net.proofs.Entries.{rule}
use Rattle.net.proofs.table.entry.Goals as goal

pub returns : goal.returns
unfolding commands
returns c = rule 0 entry_told 256 c.args.b (search rules)
