-- A binding has an effect exactly where it is legal, and that is where its guard holds. Assumes nothing.
use Rattle.std.specs.Prelude.{◌||◌, if◌then◌else◌}
use mathlib.Core.Path.{◌≡◌, refl, sym, ap, subst, ◌∙◌}
use Prim.Native.Nat.{◌≤◌, ◌<◌}
use native.Mathlib.Omega.{arith}
use borrow.Author.Tests.{ltb-true}
use Rattle.reading.specs.Basics.{ℕ, Bool, true, false, List, length, get_or, any, Option, none, some, given}
use Rattle.firing.specs.Firing.{Weights}
use Rattle.net.specs.Net.{Net, in_guard, in_expression, transition_at}
use Rattle.net.specs.Reader.{read_guard}
use Rattle.net.specs.Values.{holds}
use Rattle.net.proofs.Alike.{holds_alike, holds-bound}
use Rattle.plan.specs.internal.Layout.{guards_in}
use Rattle.evaluation.specs.internal.Evaluated.{scope_in, GuardHeld}
use Rattle.evaluation.specs.declared.evaluate.Tested.{Tested}
use Rattle.prepared.specs.internal.Prepared.{Prepared}
use Rattle.bindings.specs.Effect.{Binding, weights_of, colouring, guard_true, legal, effect}
use Rattle.bindings.specs.internal.Bindings.{Binds, binding}
use Rattle.bindings.specs.internal.Legal.{every_row}

module _ (n : Net) (b : Binding) where
  -- what is asked of a binding: its guard
  pub legal_is : legal n b ≡ guard_true n b
  unfolding legal
  legal_is = refl

  -- the weights of a binding that is legal
  abbrev weighs : Weights
  weighs = weights_of n (transition_at n b.transition) (colouring n b)

  pub effect-legal : legal n b ≡ true → effect n b ≡ some weighs
  unfolding effect
  effect-legal e = rw e

  pub effect_none : legal n b ≡ false → effect n b ≡ none
  unfolding effect
  effect_none e = rw e

  -- what an effect tells
  pub legal-told : {o : Option Weights} → effect n b ≡ o → legal n b ≡ given o false (λ w. true)
  unfolding effect
  legal-told e = rw (← e) (go (legal n b))
    where
      go : (t : Bool) → t ≡ given (if t then some weighs else none) false (λ w. true)
      go true = refl
      go false = refl

  pub effect_weighs : {w : Weights} → effect n b ≡ some w → weighs ≡ w
  unfolding effect
  effect_weighs {w} e = go (legal n b) e
    where
      go : (t : Bool) → (if t then some weighs else none) ≡ some w → weighs ≡ w
      go true q = cc
      go false q = let z : ◌≡◌ {A = ℕ} 0 1 = cc in absurd (omega arith)

-- ---- by the table
in_first : (a b : Bool) → a ≡ true → a || b ≡ true
in_first a b e = rw e

module _ {s plan : List ℕ} {n : Net} {t : ℕ} (p : Prepared s n plan) (lt : t < length n.transitions) (colours : List ℕ) where
  -- there is no guard
  pub guard_none : get_or (guards_in plan) t 0 ≡ 0 → true ≡ legal n (binding t colours)
  unfolding holds
  guard_none e = rw ((p.drawing.guard t lt).without e) at (sym (legal_is n (binding t colours)))

  -- it is evaluated where it stands
  pub guard_told : {at : ℕ} (env : List ℕ) (r : Tested) → at ≡ get_or (guards_in plan) t 0 → 1 ≤ at → Binds n (binding t colours) env
      → GuardHeld (scope_in plan n.places) env r (read_guard s (scope_in plan n.places) 16 at) → r.holds ≡ legal n (binding t colours)
  guard_told env r is h binds held =
      let there = subst (λ x. GuardHeld (scope_in plan n.places) env r (read_guard s (scope_in plan n.places) 16 x)) is held in
      let whole = subst (GuardHeld (scope_in plan n.places) env r) ((p.drawing.guard t lt).stands (omega arith)).reads there in
      ap (λ x. x.holds) whole
      ∙ sym (holds_alike n (scope_in plan n.places) p.drawing.sets p.drawing.variables (λ v. get_or env v 0) (transition_at n t).guard)
      ∙ holds-bound n (λ v. get_or env v 0) (colouring n (binding t colours)) (transition_at n t).guard
      (λ v q. binds v (in_first (in_guard v (transition_at n t).guard) (any (λ a. in_expression v a.expression) (transition_at n t).arcs) q))
      ∙ sym (legal_is n (binding t colours))

  -- where every binding has a row, it is legal
  pub every-legal : every_row plan t ≡ true → legal n (binding t colours) ≡ true
  every-legal e = let h = ltb-true (get_or (guards_in plan) t 0) 1 e in sym (guard_none (omega arith))
