use Rattle.std.proofs.Math.Option.{some}
use Rattle.std.proofs.Common.{ap, ◌≤◌, length, refl, arith}
use Rattle.net.specs.Net.{variables_of, in_transition}
use Rattle.net.specs.internal.ReaderEnums.{scope_of}
use Rattle.net_transitions.proofs.Spaces.{counted_in}
use Rattle.net_transitions.proofs.Closing.{counted, multiplied, few_kept, space_is, closes_many, closes_wide, closes}
use Rattle.net_transitions.proofs.transition.close_at.Goals as goal

pub returns-then-count_of-gt4-clause-is : goal.returns-then-count_of-gt4-clause-is
returns-then-count_of-gt4-clause-is c =
    λ places ts t e f.
    let k = counted c.args.scope.now.sizes.now c.args.scope.now.vars.now places t (counted_in (λ v. in_transition v t) c.count_of.ensures e c.args.scope.now.few_variables) in
    rw c.refused-then-count_of-gt4.ensures (record { number = 10; is = ap some (closes_many c.args.scope.now.sizes.now c.args.scope.now.vars.now places t ts f c.args.scope.now.file.now c.args.at c.args.end (λ z. omega arith) (omega arith)); reason = refl })

pub returns-then-more-gt65536-clause-is : goal.returns-then-more-gt65536-clause-is
returns-then-more-gt65536-clause-is c =
    λ places ts t e f.
    let k = counted c.args.scope.now.sizes.now c.args.scope.now.vars.now places t (counted_in (λ v. in_transition v t) c.count_of.ensures e c.args.scope.now.few_variables) in
    let h : length (variables_of (scope_of c.args.scope.now places) t) ≤ 4 = omega arith in
    let m = multiplied c.args.scope.now.sizes.now c.args.scope.now.vars.now places t (c.bindings_of.ensures.few (scope_of c.args.scope.now places) (λ v. in_transition v t) refl refl c.args.scope.now.few_variables e (few_kept c.args.scope.now.sizes.now c.args.scope.now.vars.now places t h)) in
    rw c.refused-then-more-gt65536.ensures (record { number = 11; is = ap some (closes_wide c.args.scope.now.sizes.now c.args.scope.now.vars.now places t ts f c.args.scope.now.file.now c.args.at c.args.end (λ z. omega arith) h m c.if-more-gt65536.true); reason = refl })

pub returns-clause-is : goal.returns-clause-is
returns-clause-is c =
    λ places ts t e f.
    let k = counted c.args.scope.now.sizes.now c.args.scope.now.vars.now places t (counted_in (λ v. in_transition v t) c.count_of.ensures e c.args.scope.now.few_variables) in
    let h : length (variables_of (scope_of c.args.scope.now places) t) ≤ 4 = omega arith in
    let m = multiplied c.args.scope.now.sizes.now c.args.scope.now.vars.now places t (c.bindings_of.ensures.few (scope_of c.args.scope.now places) (λ v. in_transition v t) refl refl c.args.scope.now.few_variables e (few_kept c.args.scope.now.sizes.now c.args.scope.now.vars.now places t h)) in
    (closes c.args.scope.now.sizes.now c.args.scope.now.vars.now places t ts f c.args.scope.now.file.now c.args.at c.args.end (λ z. omega arith) h m c.if-more-gt65536.false, space_is c.args.scope.now.sizes.now c.args.scope.now.vars.now places t ts f m, h)
