use Rattle.std.proofs.Common.{◌≡◌, arith, sym, ap, ◌∙◌}
use Rattle.firing.specs.Firing.{fired}
use Rattle.firing.specs.Replies.{answer_number}
use Rattle.flat_file.specs.Flat.{fire_row}
use Rattle.flat.proofs.Imaged.{no_image, image_fires, no_row, row_loaded}
use Rattle.flat.proofs.rows.Rows.fire_nth.Goals as goal

pub returns-then-byte_at-ne97 : goal.returns-then-byte_at-ne97
returns-then-byte_at-ne97 g c f held = no_image f _ _ (λ e. c.if-byte_at-ne97.true (c.byte_at.ensures.0 ∙ e))

pub returns-then-self-row : goal.returns-then-self-row
returns-then-self-row g c f held =
    no_row f _ _ (omega (arith, held.rows_are, c.if-self-row.true, c.long_at-row.ensures.0)) ∙ sym (image_fires f _ _ (sym c.byte_at.ensures.0 ∙ c.if-byte_at-ne97.false))

pub returns : goal.returns
returns g c f held =
    row_loaded f _ c.long_at-row.result (λ x. fired (answer_number c.fire_row.result) c.fire_row.new.m ≡ x) (omega (arith, held.rows_are, c.if-self-row.false)) c.row_arcs.ensures (c.load-ends.ensures.is _ f held) c.fire_row.ensures
    ∙ ap (λ j. fire_row f j c.args.m.now) c.long_at-row.ensures.0
    ∙ sym (image_fires f _ _ (sym c.byte_at.ensures.0 ∙ c.if-byte_at-ne97.false))
