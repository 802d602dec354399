use borrow.Author.Rules.{rules}
use Rattle.unfolding.proofs.Unfolds.{program_writes, program-line}
use Rattle.unfolding.proofs.program.write_reply.Goals as goal

pub returns-in-Ok : goal.returns-in-Ok
returns-in-Ok c = program_writes c.args.net.now c.args.out.now c.«unfold».new.out (search rules) c.in-Ok.length c.in-Ok.ensures

pub returns-in-Err : goal.returns-in-Err
returns-in-Err c = program-line c.args.net.now c.args.out.now c.«unfold».new.out (search rules) _ _ c.in-Err.ensures c.write_line.ensures.0 c.write_line.ensures.1
