use Rattle.std.specs.Bool.{then_some}
use Rattle.std.specs.Prelude.{Option, None}
use Rattle.std.proofs.Common.{◌≡◌, ℕ, ◌<◌, not, eqb, arith, sym, ◌∙◌}
use Rattle.net.specs.internal.ReaderEnums.{entry_told, width_told}
use Rattle.net.proofs.Shut.{commands}
use Rattle.net.proofs.Entries.{rule}
use Rattle.net.proofs.table.width.Goals as goal

-- what the code makes of an entry
abbrev made : ℕ → Option ℕ
made entry = then_some (not (eqb entry 255)) entry

made_is : (b : ℕ) → b < 256 → made (entry_told b) ≡ width_told b
unfolding commands
made_is b lt = sym (rule None (λ k. made (entry_told k)) 256 b lt) ∙ rule None width_told 256 b lt

pub returns : goal.returns
returns c = c.then_some.ensures ∙ (rw c.entry-width.ensures (made_is c.args.b (omega arith)))
