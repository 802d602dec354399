use native.Mathlib.Omega.{arith}
use Rattle.evaluation.proofs.Values.{always_held, opposite_held, both_held, either_held, equal_held, less_held, guard_past, guard_shut, guard_stray}
use borrow.Author.Rules.{rules}
use Rattle.evaluation.proofs.evaluate.Bound.+guard_at.Goals as goal

pub returns-then-file-at : goal.returns-then-file-at
returns-then-file-at t c = λ places. guard_past _ _ _ _ _ _ (search rules)

pub returns-then-b-eq32 : goal.returns-then-b-eq32
returns-then-b-eq32 t c = λ places. always_held _ _ _ _ _ c.if-b-eq32.true

pub returns-then-left-lt1 : goal.returns-then-left-lt1
returns-then-left-lt1 t c = λ places. guard_shut _ _ _ _ _ _ (search rules) c.if-b-eq32.false

pub returns-in-33 : goal.returns-in-33
returns-in-33 t c = λ places. opposite_held _ _ _ _ _ (search rules) _ (c.guard_at-g.ensures places) c.in-33.is

pub returns-in-34 : goal.returns-in-34
returns-in-34 t c = λ places. both_held _ _ _ _ _ (search rules) _ _ (c.guard_at-g-in-34.ensures places) (c.guard_at-h.ensures places) c.in-34.is

pub returns-in-35 : goal.returns-in-35
returns-in-35 t c = λ places. either_held _ _ _ _ _ (search rules) _ _ (c.guard_at-g-in-35.ensures places) (c.guard_at-h-in-35.ensures places) c.in-35.is

pub returns-in-36 : goal.returns-in-36
returns-in-36 t c = λ places. equal_held _ _ _ _ _ (search rules) _ (c.compared_at.ensures places _) c.in-36.is

pub returns-in-37 : goal.returns-in-37
returns-in-37 t c = λ places. less_held _ _ _ _ _ (search rules) _ (c.compared_at-in-37.ensures places _) c.in-37.is

pub returns-in_default : goal.returns-in_default
returns-in_default t c = λ places. guard_stray _ _ _ _ _ _ c.if-b-eq32.false (λ e. omega arith) (λ e. omega arith) (λ e. omega arith) (λ e. omega arith) (λ e. omega arith)
