use Rattle.prepared.specs.internal.Drawn.{net_of}
use Rattle.row_numbers.proofs.Tabled.{entries_begin}
use Rattle.row_bytes.proofs.marked.Marked.stretches.Goals as goal

pub invariant_of-result-clause-begins : goal.invariant_of-result-clause-begins
invariant_of-result-clause-begins g c = entries_begin (net_of c.args.self.drawing.now) c.args.self.drawing.now.plan
