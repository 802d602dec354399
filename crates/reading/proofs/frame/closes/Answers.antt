use borrow.Author.Rules.{rules}
use native.Mathlib.Omega.{arith}
use Rattle.reading.proofs.Framed.{end_cut, end_stray, end_tail, end_fine}
use Rattle.reading.proofs.frame.closes.Goals as goal

pub returns-then-file-at : goal.returns-then-file-at
returns-then-file-at c = rw c.refused.ensures (end_cut _ _ _ (search rules))

pub returns-then-file-at-2 : goal.returns-then-file-at-2
returns-then-file-at-2 c = rw c.refused-then-file-at-2.ensures (end_stray _ _ _ (omega arith) (search rules))

pub returns-then-at-file : goal.returns-then-at-file
returns-then-at-file c = rw c.refused-then-at-file.ensures (end_tail _ _ _ (search rules) (search rules))

pub returns : goal.returns
returns c = end_fine _ _ _ (search rules) (omega arith)
