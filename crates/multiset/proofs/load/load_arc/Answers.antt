use native.Mathlib.Omega.{arith}
use mathlib.Core.Path.{sym, ◌∙◌}
use Rattle.plan.specs.internal.Layout.{sets_in, variables_in}
use Rattle.multiset.proofs.Counted.{count_none, count_one}
use Rattle.multiset.proofs.load.load_arc.Goals as goal

pub returns-then-entry-rank-clause-is : goal.returns-then-entry-rank-clause-is
returns-then-entry-rank-clause-is c =
    let b = c.args.bound.now in
    let e = c.args.entry in
    count_none b.file.now (sets_in b.plan.now) (variables_in b.plan.now) b.env.now e.paired e.start e.ranks e.expression c.args.room.now c.rank_at-rank.result
    c.rank_at-rank.ensures (sym c.byte_at.ensures.0 ∙ c.if-byte_at-ne64.false) c.if-entry-rank.true

pub returns-clause-is : goal.returns-clause-is
returns-clause-is c =
    let b = c.args.bound.now in
    let e = c.args.entry in
    count_one b.file.now (sets_in b.plan.now) (variables_in b.plan.now) b.env.now e.paired e.start e.ranks e.expression c.args.room.now c.rank_at-rank.result
    c.rank_at-rank.ensures (sym c.byte_at.ensures.0 ∙ c.if-byte_at-ne64.false) _ _ (omega arith) (rw (← c.word_at-weight.ensures.0) c.append.ensures.is)
