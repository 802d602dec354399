use Rattle.row_numbers.proofs.Tabled.{effect-told}
use lib.Dec.{eqb}
use mathlib.Core.Path.{sym, ◌∙◌}
use Rattle.row_numbers.specs.internal.Marks.{mark_at}
use Rattle.row_numbers.proofs.Marking.{with-effect, without_effect}
use Rattle.row_numbers.proofs.marks.mark_one.Goals as goal

pub returns-then-has_row : goal.returns-then-has_row
returns-then-has_row c = λ i binds. let e = effect-told _ _ i (c.has_effect-has_row.ensures _ binds) in (e, λ j lt. c.set_mark.ensures j lt ∙ with-effect (mark_at c.args.marks.now j) (eqb j c.args.k) (sym c.if-has_row.true ∙ e))

pub returns-else-has_row : goal.returns-else-has_row
returns-else-has_row c = λ i binds. let e = effect-told _ _ i (c.has_effect-has_row.ensures _ binds) in (e, λ j lt. without_effect (mark_at c.args.marks.now j) (eqb j c.args.k) (sym c.if-has_row.false ∙ e))
