-- How an order stands to the rows of a net. Assumes nothing.
use mathlib.Core.Path.{◌≡◌, refl, sym, ◌∙◌}
use native.Mathlib.Omega.{arith}
use Rattle.reading.specs.Basics.{ℕ, true, false, List, [], Option, none, some, length, get_elem?, given}
use Rattle.firing.specs.Firing.{Weights, fired, fire}
use Rattle.net.specs.Net.{Net}
use Rattle.net_file.specs.Limits.{Limits}
use Rattle.bindings.specs.Effect.{Binding, guard_true, effect}
use Rattle.bindings.specs.Orders.{named, fire_order}
use Rattle.bindings.proofs.NamedOrders.{named-order}
use Rattle.row_numbers.specs.Unfolding.{rows, row_number}
use Rattle.likeness.specs.Demand3.{guard_holds, as_row}
use Rattle.row_numbers.proofs.Rows.{rowed, no_row, absent-row, present_row}
use Rattle.bindings.proofs.Legal.{legal_is, legal-told}

-- a binding has an effect exactly where its guard holds
guard_told : (n : Net) (b : Binding) {o : Option Weights} → effect n b ≡ o → guard_true n b ≡ given o false (λ w. true)
guard_told n b e = sym (legal_is n b) ∙ legal-told n b e

-- how an order stands to the rows: it has none, for it names no binding or the guard is false; or it has one, with its effect
pub data Stands (n : Net) (order : List ℕ) : Type 0 where
  without : row_number n order ≡ no_row → guard_holds n order ≡ false → ((m : List ℕ) → as_row (fire_order n order m) ≡ fired 1 m) → Stands n order
  within : (i : ℕ) (w : Weights) → row_number n order ≡ i → get_elem? (rows n) i ≡ some (rowed order w) → guard_holds n order ≡ true
      → ((m : List ℕ) → fire_order n order m ≡ fire [] w m) → Stands n order

module _ (n : Net) (limits : Limits n) where
  -- every order of 6 bytes stands so
  pub stands : (order : List ℕ) → length order ≡ 6 → Stands n order
  unfolding fire_order
  stands order six = by_name (named n order) refl
    where
      by_effect : (b : Binding) → named n order ≡ some b → (o : Option Weights) → effect n b ≡ o → Stands n order
      by_effect b e none f =
          without (absent-row n limits order (λ c w g h. let z : ◌≡◌ {A = ℕ} 0 1 = cc in absurd (omega arith))) (rw e (guard_told n b f)) (λ m. rw (e, f))
      by_effect b e (some w) f =
          let (m, q) = named-order n limits.few_variables order six e in
          let (i, r, g) = present_row n limits order m q f in
          within i w r g (rw e (guard_told n b f)) (λ m. rw (e, f))

      by_name : (o : Option Binding) → named n order ≡ o → Stands n order
      by_name none e = without (absent-row n limits order (λ b w g h. let z : ◌≡◌ {A = ℕ} 0 1 = cc in absurd (omega arith))) (rw e) (λ m. rw e)
      by_name (some b) e = by_effect b e (effect n b) refl
