use native.Mathlib.Omega.{arith}
use Rattle.std.proofs.Common.{rules, inl, inr}
use Rattle.std.proofs.lemmas.List.{drop_all}
use Rattle.multiset.proofs.Walking.{next_left, walking_stray, walking_goes, walking_ends}
use Rattle.multiset.proofs.load.load_terms.Goals as goal

pub returns-then-next-rank-clause-is : goal.returns-then-next-rank-clause-is
returns-then-next-rank-clause-is c =
    walking_stray (rw (next_left c.args.terms.now c.loop-term.term-index (record { place = 0; weight = 0 }) c.loop-term-test.true) at c.loop-term.invariant.walking)
    (λ a b. elim c.then-next-rank.either [ inl h ↦ omega arith | inr h ↦ omega arith ]) _ _

pub loop-term-preserved : goal.loop-term-preserved
loop-term-preserved c = record {
  walking = walking_goes (rw (next_left c.args.terms.now c.loop-term.term-index (record { place = 0; weight = 0 }) c.loop-term-test.true) at c.loop-term.invariant.walking) c.fill-end.ensures.is c.append-end.ensures.is;
  below = omega arith;
  within = search rules;
}

pub returns-clause-is : goal.returns-clause-is
returns-clause-is c = walking_ends (rw (drop_all c.loop-term.term-index c.args.terms.now c.loop-term-test.false) at c.loop-term.invariant.walking) c.loop-term.invariant.below c.fill.ensures.is
