use native.Mathlib.Omega.{arith}
use Rattle.plan.specs.internal.Layout.{sets_in, variables_in}
use Rattle.multiset.proofs.Counted.{listed_loads}
use Rattle.multiset.proofs.load.+load_listed.Goals as goal

pub returns-clause-is : goal.returns-clause-is
returns-clause-is t c =
    let a = c.args.arc.now in
    listed_loads a.bound.file.now (sets_in a.bound.plan.now) (variables_in a.bound.plan.now) a.bound.env.now a.entry.paired a.entry.start a.entry.ranks a.entry.expression c.args.room.now c.requires
    _ _ c.list_all-m.result _ (rw c.split_at_mut-front.ensures.back at c.list_all-m.ensures.is) (omega arith) (omega arith) (rw c.split_at_mut-front.ensures.front at c.load_terms.ensures.is)
