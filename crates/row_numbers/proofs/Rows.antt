-- The rows of a net and the orders that have them. Assumes nothing.
use Rattle.std.specs.Prelude.{◌∷◌, ◌++◌}
use mathlib.Core.Path.{◌≡◌, refl, sym, ap, ◌∙◌}
use Prim.Native.Nat.{◌≤◌, ◌<◌}
use native.Mathlib.Omega.{arith}
use lib.ListN.{length-append}
use lib.Seq.{length-take-le}
use Rattle.reading.specs.Basics.{ℕ, List, [], Option, none, some, option_map, length, get_elem?, given, position, same}
use Rattle.reading.proofs.Lists.{In, Apart, length-filter_map}
use Rattle.firing.specs.Firing.{Weights}
use Rattle.net.specs.Net.{Net}
use Rattle.net_file.specs.Limits.{Limits}
use Rattle.bindings.specs.Effect.{Binding, bindings, effect}
use Rattle.bindings.specs.Orders.{order_of, named}
use Rattle.bindings.proofs.Bindings.{bindings-length}
use Rattle.bindings.proofs.NamedOrders.{order_names, orders_apart}
use Rattle.row_numbers.specs.Unfolding.{Rowed, rows, row_number, order_of_row}
use Rattle.row_numbers.proofs.Numbering.{at_number, row_at, number_of, numbered}

-- what a binding's row is made of, and the row of a binding that has an effect
abbrev pub rowed : List ℕ → Weights → Rowed
rowed order w = record { order = order; weights = w }

abbrev pub rowed_if : Net → Binding → Option Rowed
rowed_if n b = option_map (rowed (order_of b)) (effect n b)

-- a row carries its binding's order, and its weights are the effect
pub rowed_is : (n : Net) (b : Binding) (r : Rowed) → rowed_if n b ≡ some r → (effect n b ≡ some r.weights) × (r.order ≡ order_of b)
rowed_is n b r e = go (effect n b) e
  where
    go : (o : Option Weights) → option_map (rowed (order_of b)) o ≡ some r → (o ≡ some r.weights) × (r.order ≡ order_of b)
    go none q = let z : ◌≡◌ {A = ℕ} 0 1 = cc in absurd (omega arith)
    go (some w) q = let p : rowed (order_of b) w ≡ r = cc in (ap (λ x. some x.weights) p, sym (ap (λ x. x.order) p))

keyed : (n : Net) (b : Binding) (r : Rowed) → rowed_if n b ≡ some r → r.order ≡ order_of b
keyed n b r e = (rowed_is n b r e).1

-- the number of no row
abbrev pub no_row : ℕ
no_row = 4294967295

module _ (n : Net) (limits : Limits n) where
  apart : Apart order_of (bindings n)
  apart = orders_apart n limits.few_variables

  -- at most 65,536 rows
  pub rows_few : length (rows n) ≤ 65536
  unfolding rows
  rows_few = let h = length-filter_map (rowed_if n) (bindings n) in omega (arith, bindings-length n, limits.space)

  -- no order has a number without a row of its binding
  pub absent-row : (order : List ℕ) → ((b : Binding) (w : Weights) → named n order ≡ some b → effect n b ≡ some w → ⊥) → row_number n order ≡ no_row
  unfolding rows row_number
  absent-row order h = go (position (λ r. same r.order order) (rows n)) refl
    where
      go : (o : Option ℕ) → position (λ r. same r.order order) (rows n) ≡ o → given o no_row (λ i. i) ≡ no_row
      go none e = refl
      go (some i) e =
          let (b, r, m, p, q, f) = numbered order_of (rowed_if n) (λ x. x.order) (keyed n) (bindings n) apart order e in
          absurd (h b r.weights (ap (named n) (sym q) ∙ order_names n limits.few_variables m) (rowed_is n b r p).0)

  -- an order whose binding has an effect has a row
  pub present_row : (order : List ℕ) {b : Binding} {w : Weights} → In b (bindings n) → order_of b ≡ order → effect n b ≡ some w
      → (i : ℕ) × (row_number n order ≡ i) × (get_elem? (rows n) i ≡ some (rowed order w))
  unfolding rows row_number
  present_row order {b} {w} m q e =
      let (i, f, p) = number_of order_of (rowed_if n) (λ x. x.order) (keyed n) (bindings n) apart m (ap (option_map (rowed (order_of b))) e) in
      (i, rw (← q, p), rw (← q) f)

  -- ---- the way back
  -- a row's order is of 6 bytes and has the row's number
  six_bytes : (b : Binding) → length (order_of b) ≡ 6
  six_bytes b =
      let e = length-take-le 4 (b.colours ++ (0 ∷ 0 ∷ 0 ∷ 0 ∷ [])) (rw length-append (omega arith)) in
      omega arith

  pub row-order : (i : ℕ) {r : Rowed} → get_elem? (rows n) i ≡ some r → (length r.order ≡ 6) × (row_number n r.order ≡ i)
  unfolding rows row_number
  row-order i {r} e =
      let (b, m, p) = row_at order_of (rowed_if n) (λ x. x.order) (keyed n) (bindings n) apart i e in
      (ap length (rowed_is n b r p).1 ∙ six_bytes b, rw (at_number order_of (rowed_if n) (λ x. x.order) (keyed n) (bindings n) apart i e))

  -- from a row to its order and back: the row number
  pub number_of_order : (i : ℕ) {order : List ℕ} → order_of_row n i ≡ some order → (row_number n order ≡ i) × (length order ≡ 6)
  unfolding order_of_row
  number_of_order i {order} e = go (get_elem? (rows n) i) refl e
    where
      go : (o : Option Rowed) → get_elem? (rows n) i ≡ o → option_map (λ r. r.order) o ≡ some order → (row_number n order ≡ i) × (length order ≡ 6)
      go none f q = let z : ◌≡◌ {A = ℕ} 0 1 = cc in absurd (omega arith)
      go (some r) f q = let (six, g) = row-order i f in let h : r.order ≡ order = cc in (rw (← h) g, rw (← h) six)

  -- from an order to its row and back: the order
  pub order_of_number : (i : ℕ) (order : List ℕ) → row_number n order ≡ i → i < length (rows n) → order_of_row n i ≡ some order
  unfolding rows row_number order_of_row
  order_of_number i order e lt = go (position (λ r. same r.order order) (rows n)) refl e
    where
      go : (o : Option ℕ) → position (λ r. same r.order order) (rows n) ≡ o → given o no_row (λ j. j) ≡ i → order_of_row n i ≡ some order
      go none f q = let h = rows_few in absurd (omega arith)
      go (some j) f q =
          let (b, r, m, p, c, g) = numbered order_of (rowed_if n) (λ x. x.order) (keyed n) (bindings n) apart order f in
          rw (← q, g) (ap some ((rowed_is n b r p).1 ∙ c))
