use Rattle.std.proofs.Common.{ap, arith, ◌∙◌}
use Rattle.net.specs.Net.{equal, less}
use Rattle.net.specs.internal.ReaderEnums.{answer_of}
use Rattle.net.proofs.Guards.{pair_whole, pair_fails, equal_compares, less_compares}
use Rattle.net.proofs.compared.Goals as goal

pub returns-then-a-b-clause-is_equal : goal.returns-then-a-b-clause-is_equal
returns-then-a-b-clause-is_equal c places =
    ap answer_of c.refused.ensures ∙ pair_fails _ _ _ equal equal_compares _ _ (c.in_ok-a.ensures places) (c.in_ok-b.ensures places) c.if-a-b.true

pub returns-then-a-b-clause-is_less : goal.returns-then-a-b-clause-is_less
returns-then-a-b-clause-is_less c places =
    ap answer_of c.refused.ensures ∙ pair_fails _ _ _ less less_compares _ _ (c.in_ok-a.ensures places) (c.in_ok-b.ensures places) c.if-a-b.true

pub returns-clause-is_equal : goal.returns-clause-is_equal
returns-clause-is_equal c places =
    pair_whole _ _ _ equal equal_compares _ _ (c.in_ok-a.ensures places) (c.in_ok-b.ensures places) (omega arith)

pub returns-clause-is_less : goal.returns-clause-is_less
returns-clause-is_less c places =
    pair_whole _ _ _ less less_compares _ _ (c.in_ok-a.ensures places) (c.in_ok-b.ensures places) (omega arith)
