use borrow.Author.Rules.{rules}
use native.Mathlib.Omega.{arith}
use Rattle.reading.proofs.Framed.{first_past, first_stray, first_cut, first_edition, first_goes}
use Rattle.reading.proofs.frame.opens.Goals as goal

pub returns-then-file-lt1-clause-is : goal.returns-then-file-lt1-clause-is
returns-then-file-lt1-clause-is c = rw c.refused.ensures (first_past _ _ (search rules))

pub returns-then-file-byte-clause-is : goal.returns-then-file-byte-clause-is
returns-then-file-byte-clause-is c = rw c.refused-then-file-byte.ensures (first_stray _ _ (omega arith) (search rules))

pub returns-then-file-lt2-clause-is : goal.returns-then-file-lt2-clause-is
returns-then-file-lt2-clause-is c = rw c.refused-then-file-lt2.ensures (first_cut _ _ (search rules) (search rules))

pub returns-then-file-ne1-clause-is : goal.returns-then-file-ne1-clause-is
returns-then-file-ne1-clause-is c = rw c.refused-then-file-ne1.ensures (first_edition _ _ (search rules) (omega arith) (search rules))

pub returns-clause-is : goal.returns-clause-is
returns-clause-is c = first_goes _ _ (search rules) (omega arith) (search rules)
