use Rattle.std.proofs.Common.{ap, arith, refl, ◌∙◌}
use Rattle.reading.proofs.Commands.{needed_past}
use Rattle.net.specs.internal.ReaderEnums.{answer_of}
use Rattle.net.proofs.Shut.{commands}
use Rattle.net.proofs.Colours.{told, colour_stray, inner_deep, inner_read}
use Rattle.net.proofs.+read_colour.Goals as goal
use Rattle.net.proofs.+read_colour.Goals.{in_default-via-then-this-lt48, in_default-via-else-this-lt48+else-this-lt52}

pub returns-then-scope-at : goal.returns-then-scope-at
unfolding commands
returns-then-scope-at t c places = ap answer_of c.refused.ensures ∙ told _ _ _ _ (needed_past _ _ _ refl c.if-scope-at.true)

pub returns-in-50 : goal.returns-in-50
returns-in-50 t c places = ap answer_of c.refused-in-50.ensures ∙ inner_deep _ _ _ _ (omega arith) (omega arith) (omega arith) (omega arith)

pub returns-in-50-2 : goal.returns-in-50-2
returns-in-50-2 t c places =
    c.read_colour.ensures places ∙ inner_read _ _ _ _ _ (omega arith) (omega arith) (omega arith) (omega arith) c.after.ensures

pub returns-in_default : goal.returns-in_default
returns-in_default t c places = ap answer_of c.refused-in_default.ensures ∙ elim c.in_default.branch [
  | in_default-via-then-this-lt48 w ↦ colour_stray _ _ _ _ (omega arith) (λ e. omega arith) (λ e. omega arith) (λ e. omega arith) (λ e. omega arith)
  | in_default-via-else-this-lt48+else-this-lt52 w ↦ colour_stray _ _ _ _ (omega arith) (λ e. omega arith) (λ e. omega arith) (λ e. omega arith) (λ e. omega arith)
]
