use Rattle.std.proofs.Common.{arith, ◌-◌, ◌+◌, ◌≡◌}
use Rattle.net.specs.Reader.{read_expression}
use Rattle.evaluation.specs.internal.Evaluated.{scope_in, place_by}
use Rattle.sums.proofs.Listing.{times_listed, joined_listed, all_listed, times_told, joined_told, listed_past, listed_shut, listed_stray}
use Rattle.sums.proofs.bound_arc.BoundArc.+list.Goals as goal

pub list_joined-returns-clause-is : goal.list_joined-returns-clause-is
list_joined-returns-clause-is t c = λ known first second.
    let a = c.args in
    let s = a.self.now in
    rw c.join.ensures
    (joined_told _ _ _ _ _ _ _ _ _ _ a.op c.requires
    (joined_listed (scope_in s.bound.plan.now known) _ _ _ (read_expression s.bound.file.now (scope_in s.bound.plan.now known) (place_by s.entry.paired first second) a.left) a.at (a.at + 1) _ _
    (c.list_terms-e.ensures.is known first second) _ _ (c.list_terms-f.ensures.is known first second) a.op (omega (arith, c.list_terms-e.type_inv)) _ _ c.merge.ensures.is))

pub list_terms-returns-then-file-at-clause-is : goal.list_terms-returns-then-file-at-clause-is
list_terms-returns-then-file-at-clause-is t c = λ known first second. listed_past _ _ _ _ _ _ _ _ _ _ c.if-file-at.true

pub list_terms-returns-then-b-eq65-clause-is : goal.list_terms-returns-then-b-eq65-clause-is
list_terms-returns-then-b-eq65-clause-is t c = λ known first second. rw c.word_at.ensures.0 (all_listed _ _ _ _ _ _ _ _ c.if-b-eq65.true)

pub list_terms-returns-then-left-lt1-clause-is : goal.list_terms-returns-then-left-lt1-clause-is
list_terms-returns-then-left-lt1-clause-is t c = λ known first second. listed_shut _ _ _ _ _ _ _ _ _ _ c.if-left-lt1.true c.if-b-eq65.false

pub list_terms-returns-in_default-clause-is : goal.list_terms-returns-in_default-clause-is
list_terms-returns-in_default-clause-is t c = λ known first second. listed_stray _ _ _ _ _ _ _ _ _ _ (λ e. omega arith) c.if-b-eq65.false (λ e. omega arith) (λ e. omega arith) (λ e. omega arith)

pub list_times-returns-clause-is : goal.list_times-returns-clause-is
list_times-returns-clause-is t c = λ known first second.
    let a = c.args in
    let s = a.self.now in
    rw c.scaled.ensures
    (times_told _ _ _ _ _ _ _ _ _ _ c.requires
    (rw (← c.word_at-factor.ensures.0)
    (times_listed _ _ _ _ (read_expression s.bound.file.now (scope_in s.bound.plan.now known) (place_by s.entry.paired first second) a.left) a.at (a.at + 3) _ _
    (c.list_terms-e.ensures.is known first second) _ _ c.scale.ensures)))

pub list_terms-returns-in-64-clause-is : goal.list_terms-returns-in-64-clause-is
list_terms-returns-in-64-clause-is t c = let e : c.args.left - 1 + 1 ≡ c.args.left = omega (arith, c.if-left-lt1.false) in rw e at c.list_count.ensures.is

pub list_terms-returns-in-66-clause-is : goal.list_terms-returns-in-66-clause-is
list_terms-returns-in-66-clause-is t c = let e : c.args.left - 1 + 1 ≡ c.args.left = omega (arith, c.if-left-lt1.false) in rw e at c.list_joined.ensures.is

pub list_terms-returns-in-67-clause-is : goal.list_terms-returns-in-67-clause-is
list_terms-returns-in-67-clause-is t c = let e : c.args.left - 1 + 1 ≡ c.args.left = omega (arith, c.if-left-lt1.false) in rw e at c.list_joined-in-67.ensures.is

pub list_terms-returns-in-68-clause-is : goal.list_terms-returns-in-68-clause-is
list_terms-returns-in-68-clause-is t c = let e : c.args.left - 1 + 1 ≡ c.args.left = omega (arith, c.if-left-lt1.false) in rw e at c.list_times.ensures.is
