use Rattle.std.specs.Prelude.{Ok, Err}
use Rattle.std.specs.Bool.{then_some}
use Rattle.std.specs.Option.{ok_or}
use mathlib.Core.Path.{◌≡◌, refl, sym, ◌∙◌}
use Prim.Native.Nat.{◌≤◌, ◌<◌}
use native.Mathlib.Omega.{arith}
use borrow.Author.Tests.{ltb-true, ltb-false}
use Rattle.reading.specs.Basics.{ℕ, Bool, true, false, ltb}
use Rattle.prepared.specs.internal.Drawn.{DrawnTransition}
use Rattle.bindings.proofs.Owning.{its_space}
use Rattle.row_numbers.specs.internal.Walked.{SoughtTold}
use Rattle.row_numbers.proofs.Tabled.{every_takes, effects-every}
use Rattle.row_numbers.proofs.seek.seek_in.Goals as goal

-- what the code makes of a row, by its test
sought : (t : DrawnTransition) (row size : ℕ) → (row < size → SoughtTold t row (Ok row)) → (size ≤ row → SoughtTold t row (Err size))
    → SoughtTold t row (ok_or (then_some (ltb row size) row) size)
sought t row size here past = go (ltb row size) refl
  where
    go : (b : Bool) → ltb row size ≡ b → SoughtTold t row (ok_or (then_some b row) size)
    go true e = here (ltb-true row size e)
    go false e = past (ltb-false row size e)

pub returns : goal.returns
returns c =
    let p = c.plan-plan.ensures.known in
    let lt = rw c.number-t.ensures.is at c.number-t.ensures.inside in
    let every = rw (c.plan-plan.ensures.is, c.number-t.ensures.is) at (sym c.every_binding_has_row.ensures ∙ c.if-not-every_binding_has_row.false) in
    let size = its_space c.args.transition.now c.plan-plan.ensures.is p c.number-t.ensures.is c.number-t.ensures.inside c.space_of-size.ensures.is in
    rw (c.ok_or.ensures.value, c.then_some.ensures) (sought c.args.transition.now c.args.row c.space_of-size.result
    (λ h. (omega (arith, size), sym (every_takes p lt every c.args.row), effects-every p lt every c.args.row))
    (λ h. (h, size ∙ effects-every p lt every _)))
