use borrow.Author.Rules.{rules}
use native.Mathlib.Omega.{arith}
use mathlib.Core.Path.{ap}
use mathlib.Core.Logic.{⊎_elim}
use Prim.Native.Nat.{◌+◌}
use borrow.Author.Tests.{lt-ltb, le-ltb}
use Rattle.reading.specs.Basics.{[], length, ltb}
use Rattle.reading.proofs.Commands.{passes, done, fails, later, first_fails, second_fails, both_hold}
use Rattle.net.specs.Net.{scope}
use Rattle.net.specs.internal.ReaderEnums.{place_in}
use Rattle.net_parts.proofs.Totals.{placed, not_named, not_counted, counted, one_fits, one_spills}
use Rattle.net_parts.proofs.place.place_at.Goals as goal

pub returns-in_default-clause-is : goal.returns-in_default-clause-is
returns-in_default-clause-is c = λ v l e f. not_named _ _ c.sets_named.ensures c.in_default.is _ l

pub after-next-requires : goal.after-next-requires
after-next-requires c = (placed _ _ c.sets_named.ensures c.in-Some.is).inside

pub returns-then-file-next : goal.returns-then-file-next
returns-then-file-next c =
    let p = placed _ _ c.sets_named.ensures c.in-Some.is in let next = c.after-next.ensures _ p.wide in
    rw c.refused.ensures record { is = λ v l e f. p.cut (omega arith) _ l; room = p.inside }

pub returns-in_default-colours_counted : goal.returns-in_default-colours_counted
returns-in_default-colours_counted c =
    let p = placed _ _ c.sets_named.ensures c.in-Some.is in let next = c.after-next.ensures _ p.wide in
    rw c.refused-in_default-colours_counted.ensures record {
      is = λ v l e f. p.fails (omega arith) (scope c.args.sets.now v []) l (fails (not_counted _ _ c.colours_counted.ensures.is c.in_default-colours_counted.is));
      room = p.inside;
    }

pub returns-then-count-ge32 : goal.returns-then-count-ge32
returns-then-count-ge32 c =
    let p = placed _ _ c.sets_named.ensures c.in-Some.is in let next = c.after-next.ensures _ p.wide in
    let k = counted _ _ c.colours_counted.ensures.is c.in-Some-colours_counted.is in
    rw c.refused-then-count-ge32.ensures record {
      is = λ v l e f. p.fails (omega arith) (scope c.args.sets.now v []) l (later k.0 (fails (⊎_elim
          (λ many. first_fails _ _ (le-ltb (length l) 32 (omega arith)))
          (λ over. second_fails (ltb (length l) 32) _ (one_spills (scope c.args.sets.now v []) l f (place_in c.in-Some.place) (omega arith))) c.then-count-ge32.either)));
      room = p.inside;
    }

pub returns : goal.returns
returns c =
    let p = placed _ _ c.sets_named.ensures c.in-Some.is in let next = c.after-next.ensures _ p.wide in
    let k = counted _ _ c.colours_counted.ensures.is c.in-Some-colours_counted.is in
    record {
      is = λ v l e f. rw next (p.goes (omega arith) (scope c.args.sets.now v []) l (passes k.0 (passes (both_hold _ _ (lt-ltb (length l) 32 (omega arith))
          (one_fits (scope c.args.sets.now v []) l f (place_in c.in-Some.place) (omega arith))) done)));
      room = (search rules, search rules, ap (λ x. c.args.total + x) k.1, omega arith, omega arith);
    }
