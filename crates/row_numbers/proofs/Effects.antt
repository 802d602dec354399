-- How many of a transition's bindings have an effect, and so how many rows come before a binding. Assumes nothing.
use Rattle.std.specs.Prelude.{◌+◌, if◌then◌else◌}
use mathlib.Core.Path.{◌≡◌, refl, sym, ap, ◌∙◌, subst}
use Prim.Native.Nat.{◌<◌, ◌≤◌}
use native.Mathlib.Numerals.{add-one}
use native.Mathlib.Omega.{arith}
use Rattle.reading.specs.Basics.{ℕ, zero, suc, Bool, true, false, some, length, get_elem?, keep, numbers_from, product}
use Rattle.net.specs.Net.{Net, sizes_of, transition_at}
use Rattle.net_transitions.proofs.Spaces.{count_next, count_takes}
use Rattle.bindings.specs.Effect.{bindings}
use Rattle.bindings.specs.internal.Bindings.{numbered}
use Rattle.bindings.specs.internal.Numbers.{before}
use Rattle.bindings.proofs.Digits.{bindings_at}
use Rattle.row_numbers.specs.internal.Walked.{passed, takes_effect, effects}
use Rattle.row_numbers.proofs.Walking.{effect_passes, effect_fails}

module _ (n : Net) (t : ℕ) where
  pub effects_none : ◌≡◌ {A = ℕ} 0 (effects n t 0)
  unfolding keep numbers_from
  effects_none = refl

  -- with one more
  pub effects_next : (i : ℕ) {one : ℕ} → one ≡ (if takes_effect n t i then 1 else 0) → effects n t (i + 1) ≡ effects n t i + one
  effects_next i e = omega (arith, count_next (takes_effect n t) i)

  -- no more than there are
  pub effects-most : (many : ℕ) → effects n t many ≤ many
  effects-most zero = omega (arith, effects_none)
  effects-most (suc i) = subst (λ k. effects n t k ≤ k) (add-one i) (go (takes_effect n t i) (count_next (takes_effect n t) i) (effects-most i))
    where
      go : (b : Bool) → effects n t (i + 1) ≡ effects n t i + (if b then 1 else 0) → effects n t i ≤ i → effects n t (i + 1) ≤ i + 1
      go true e h = omega arith
      go false e h = omega arith

  -- where each of them has one
  pub effects_all : (many : ℕ) → ((i : ℕ) → i < many → true ≡ takes_effect n t i) → many ≡ effects n t many
  effects_all zero h = effects_none
  effects_all (suc i) h =
      subst (λ k. k ≡ effects n t k) (add-one i) (ap (λ c. c + 1) (effects_all i (λ j lt. h j (omega arith))) ∙ sym (count_takes (takes_effect n t) i (h i (omega arith))))

  -- the rows before its bindings, and those of its first so many
  pub passed_here : t < length n.transitions → (i : ℕ) → i ≤ product (sizes_of n (transition_at n t)) → passed n (before n t + i) ≡ passed n (before n t) + effects n t i
  passed_here lt zero le = let e : before n t + 0 ≡ before n t = omega arith in ap (passed n) e ∙ omega (arith, effects_none)
  passed_here lt (suc i) le = subst (λ k. passed n (before n t + k) ≡ passed n (before n t) + effects n t k) (add-one i) (ap (passed n) at ∙ go (takes_effect n t i) refl (passed_here lt i (omega arith)))
    where
      at : before n t + (i + 1) ≡ before n t + i + 1
      at = omega arith

      here : get_elem? (bindings n) (before n t + i) ≡ some (numbered n t i)
      here = bindings_at n t i lt (omega arith)

      go : (b : Bool) → takes_effect n t i ≡ b → passed n (before n t + i) ≡ passed n (before n t) + effects n t i → passed n (before n t + i + 1) ≡ passed n (before n t) + effects n t (i + 1)
      go true e h = omega (arith, effect_passes n (before n t + i) here e, effects_next i (ap {B = ℕ} (λ b. if b then 1 else 0) (sym e)))
      go false e h = omega (arith, effect_fails n (before n t + i) here e, effects_next i (ap {B = ℕ} (λ b. if b then 1 else 0) (sym e)))
