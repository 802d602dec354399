use native.Mathlib.Nat.{one-mul}
use native.Mathlib.Omega.{arith}
use lib.Dec.{lit<}
use lib.Pow.{shl_exact}
use Prim.Native.Nat.{◌%◌, ◌^◌}
use Rattle.row_numbers.proofs.Marking.{mark_set}
use Rattle.row_numbers.proofs.marks.set_mark.Goals as goal

pub returns-then-k-lt65536 : goal.returns-then-k-lt65536
returns-then-k-lt65536 c = λ j lt. rw (shl_exact 1 (c.args.k % 32) 32 (lit< tt) (omega arith), one-mul (2 ^ (c.args.k % 32))) (mark_set c.args.marks.now c.args.k j (omega arith))
