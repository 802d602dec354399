-- The search for the binding of a row. Assumes nothing.
use Rattle.std.specs.Prelude.{◌+◌, Result, Ok, Err}
use mathlib.Core.Path.{◌≡◌, refl, ap, ◌∙◌, subst}
use Prim.Native.Nat.{◌≤◌, ◌<◌, ◌-◌}
use native.Mathlib.Omega.{arith}
use Rattle.reading.specs.Basics.{ℕ, true, none, some, length, product}
use Rattle.net.specs.Net.{Net, sizes_of, transition_at}
use Rattle.prepared.specs.internal.Drawn.{DrawnTransition}
use Rattle.bindings.specs.Effect.{bindings}
use Rattle.bindings.specs.internal.Numbers.{before}
use Rattle.bindings.specs.internal.Bindings.{its_sizes}
use Rattle.bindings.proofs.Digits.{bindings_at, before_all}
use Rattle.row_numbers.specs.Unfolding.{order_of_row}
use Rattle.row_numbers.specs.internal.Walked.{passed, takes_effect, effects, it_takes, its_effects, order_at, SoughtTold}
use Rattle.row_numbers.proofs.Walking.{passed_all, order_here, order_past, effect_passes}
use Rattle.row_numbers.proofs.Effects.{passed_here}
use Rattle.row_numbers.proofs.Tabled.{passed_then}

-- what a transition's search told
pub the_index : (t : DrawnTransition) (row : ℕ) {index : ℕ} {r : Result ℕ ℕ} → r ≡ Ok index → SoughtTold t row r
    → (index < product (its_sizes t)) × (it_takes t index ≡ true) × (row ≡ its_effects t index)
the_index t row e h = subst (SoughtTold t row) e h

pub the_rows : (t : DrawnTransition) (row : ℕ) {rows : ℕ} {r : Result ℕ ℕ} → r ≡ Err rows → SoughtTold t row r → (rows ≤ row) × (rows ≡ its_effects t (product (its_sizes t)))
the_rows t row e h = subst (SoughtTold t row) e h

module _ (n : Net) (row : ℕ) {t left : ℕ} (is : row ≡ left + passed n (before n t)) where
  -- the row is that of a transition's binding
  pub seek_found : t < length n.transitions → {i : ℕ} → i < product (sizes_of n (transition_at n t)) → takes_effect n t i ≡ true → left ≡ effects n t i
      → order_of_row n row ≡ some (order_at n t i)
  seek_found lt {i} inside takes e =
      let here = bindings_at n t i lt inside in
      let h : passed n (before n t + i) ≡ row = omega (arith, passed_here n t lt i (omega arith)) in
      order_here n (before n t + i) here row (omega arith) (omega (arith, effect_passes n (before n t + i) here takes))

  -- it comes after all of a transition's rows
  pub seek_next : t < length n.transitions → {rows : ℕ} → rows ≤ left → rows ≡ effects n t (product (sizes_of n (transition_at n t))) → row ≡ left - rows + passed n (before n (t + 1))
  seek_next lt le e = omega (arith, passed_then n lt refl e)

-- it is not among those of all transitions
pub seek_ends : (n : Net) (row t left : ℕ) → row ≡ left + passed n (before n t) → t ≡ length n.transitions → order_of_row n row ≡ none
seek_ends n row t left is e =
    let all : before n t ≡ length (bindings n) = ap (before n) e ∙ before_all n in
    order_past n row (omega (arith, passed_all n (before n t) (omega arith)))
