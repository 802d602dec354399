use native.Mathlib.Omega.{arith}
use borrow.Author.Tests.{lt-ltb, le-ltb}
use Rattle.flat_file.proofs.Files.{step_other, step_cut, step_full, step_on}
use Rattle.flat_file.proofs.reader.command_at.Goals as goal

pub returns-then-element-byte-clause-is : goal.returns-then-element-byte-clause-is
returns-then-element-byte-clause-is c = step_other _ _ _ _ _ (rw c.element.ensures at c.if-element-byte.true)

pub returns-then-file-at-clause-is : goal.returns-then-file-at-clause-is
returns-then-file-at-clause-is c = rw c.refused.ensures (step_cut _ _ _ _ _ (omega arith) c.requires.width_bound.0 c.if-file-at.true)

pub returns-then-limit-count-clause-is : goal.returns-then-limit-count-clause-is
returns-then-limit-count-clause-is c = rw c.refused-then-limit-count.ensures (step_full _ _ _ _ _ (omega arith) c.requires.width_bound.0 c.if-file-at.false (le-ltb _ _ c.if-limit-count.true))

pub returns-clause-is : goal.returns-clause-is
returns-clause-is c = step_on _ _ _ _ _ (omega arith) c.requires.width_bound.0 c.if-file-at.false (lt-ltb _ _ c.if-limit-count.false)
