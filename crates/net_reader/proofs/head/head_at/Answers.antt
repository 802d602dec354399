use borrow.Author.Rules.{rules}
use native.Mathlib.Omega.{arith}
use mathlib.Core.Path.{sym, ◌∙◌}
use Rattle.net_reader.proofs.Heads.{head_past, head_stray, head_cut, head_whole}
use Rattle.net_reader.proofs.head.head_at.Goals as goal

pub returns-then-file-at : goal.returns-then-file-at
returns-then-file-at c = rw c.refused.ensures (head_past _ _ (search rules))

pub returns-in_default : goal.returns-in_default
returns-in_default c = rw c.refused-in_default.ensures (head_stray _ _ (search rules) (sym c.width.ensures ∙ c.in_default.is))

pub returns-then-file-at-2 : goal.returns-then-file-at-2
returns-then-file-at-2 c = rw c.refused-then-file-at-2.ensures (head_cut _ _ (sym c.width.ensures ∙ c.in-Some.is) (omega arith))

pub returns : goal.returns
returns c = head_whole _ _ (sym c.width.ensures ∙ c.in-Some.is) (omega arith)
