use borrow.Author.Rules.{rules}
use native.Mathlib.Omega.{arith}
use Prim.Native.Nat.{◌+◌, ◌-◌}
use Rattle.net.specs.Reader.{read_expression}
use Rattle.evaluation.specs.internal.Evaluated.{scope_in, place_by}
use Rattle.row_lengths.proofs.MostRead.{numbered, sum-most, less_most, all_most, one_most, times_told, plus_told, minus_told, most_past, most_shut, most_stray}
use Rattle.row_lengths.proofs.arcs.+most_at.Goals as goal

pub returns-then-bound-at-clause-is : goal.returns-then-bound-at-clause-is
returns-then-bound-at-clause-is t c = λ known first second. most_past _ _ _ _ _ _ _ (search rules)

pub returns-then-b-eq65-clause-is : goal.returns-then-b-eq65-clause-is
returns-then-b-eq65-clause-is t c = λ known first second. all_most _ _ _ _ _ _ c.if-b-eq65.true

pub returns-then-left-lt1-clause-is : goal.returns-then-left-lt1-clause-is
returns-then-left-lt1-clause-is t c = λ known first second. most_shut _ _ _ _ _ _ _ (search rules) c.if-b-eq65.false

pub returns-in-64-clause-is : goal.returns-in-64-clause-is
returns-in-64-clause-is t c = λ known first second. one_most _ _ _ _ _ _ (search rules) _ _ (c.rank_at.ensures known first second _ _) c.in-64.is

pub returns-in-66-clause-is : goal.returns-in-66-clause-is
returns-in-66-clause-is t c = λ known first second. plus_told _ _ _ _ _ _ (search rules) _ c.in-66.is (rw c.min.ensures (sum-most _ (read_expression c.args.arc.now.bound.file.now (scope_in c.args.arc.now.bound.plan.now known) (place_by c.args.arc.now.entry.paired first second) (c.args.left - 1)) c.args.at (c.args.at + 1) _ (c.most_at-e.ensures.is known first second) _ (c.most_at-f.ensures.is known first second)))

pub returns-in-67-clause-is : goal.returns-in-67-clause-is
returns-in-67-clause-is t c = λ known first second. minus_told _ _ _ _ _ _ (search rules) _ c.in-67.is (rw c.most_less.ensures.is (less_most _ (read_expression c.args.arc.now.bound.file.now (scope_in c.args.arc.now.bound.plan.now known) (place_by c.args.arc.now.entry.paired first second) (c.args.left - 1)) c.args.at (c.args.at + 1) _ (c.most_at-e-in-67.ensures.is known first second) c.args.arc.now.bound.file.now (λ place. numbered _ _ place _ _) _ (c.most_at-f-in-67.ensures.is known first second)))

pub returns-in-68-clause-is : goal.returns-in-68-clause-is
returns-in-68-clause-is t c = λ known first second. times_told _ _ _ _ _ _ (search rules) _ c.in-68.is (c.most_at.ensures.is known first second)

pub returns-in_default-clause-is : goal.returns-in_default-clause-is
returns-in_default-clause-is t c = λ known first second. most_stray _ _ _ _ _ _ _ (λ e. omega arith) c.if-b-eq65.false (λ e. omega arith) (λ e. omega arith) (λ e. omega arith)
