use mathlib.Core.Path.{◌∙◌}
use Rattle.net_parts.proofs.Tokening.{no_tokens, all_same}
use Rattle.net_parts.proofs.token.read_tokens.Goals as goal

pub returns-then-byte_at-ne25 : goal.returns-then-byte_at-ne25
returns-then-byte_at-ne25 c = no_tokens _ (λ e. c.if-byte_at-ne25.true (c.byte_at.ensures.0 ∙ e)) (λ i. rw (c.fill.ensures.after (λ y h. h)) (all_same _ i 0))

pub read_marked-requires : goal.read_marked-requires
read_marked-requires c = λ i. (rw (c.fill.ensures.after (λ y h. h)) (all_same _ i 0), all_same 4096 i 0)
