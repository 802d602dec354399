-- The walk over all bindings in order: how many rows the first so many have, and what that says of row numbers and of orders. Assumes nothing.
use Rattle.std.specs.Prelude.{◌+◌, ◌∷◌, ◌++◌}
use mathlib.Core.Path.{◌≡◌, refl, sym, ap, ◌∙◌}
use mathlib.Core.List.{append-nil, filter_map-append, filter_map-cons-none, filter_map-cons-some}
use Prim.Native.Nat.{◌≤◌, ◌<◌}
use native.Mathlib.Omega.{arith}
use lib.ListN.{length-append, length-take}
use lib.Seq.{take_all}
use Rattle.reading.specs.Basics.{ℕ, zero, suc, Bool, true, false, List, [], filter_map, Option, none, some, option_map, length, take, drop, get_elem?, given, with}
use Rattle.reading.proofs.Lists.{Apart, at_in, length-filter_map}
use Rattle.firing.specs.Firing.{Weights}
use Rattle.firing.proofs.Running.{take-with, split_here}
use Rattle.net.specs.Net.{Net}
use Rattle.net_file.specs.Limits.{Limits}
use Rattle.bindings.specs.Effect.{Binding, bindings, effect}
use Rattle.bindings.specs.Orders.{order_of, named}
use Rattle.bindings.proofs.NamedOrders.{order_names, named-order, orders_apart}
use Rattle.row_numbers.specs.Unfolding.{rows, row_number, order_of_row}
use Rattle.row_numbers.specs.internal.Walked.{rows_among, passed}
use Rattle.row_numbers.proofs.Numbering.{at_number}
use Rattle.row_numbers.proofs.Rows.{rowed, rowed_if, rowed_is, no_row, absent-row}

-- ---- any candidates, of which some pass
-- what stands behind a list
at_seam : {A : Type 0} (l m : List A) (a : A) → get_elem? (l ++ (a ∷ m)) (length l) ≡ some a
at_seam [] m a = refl
at_seam (x ∷ l) m a = at_seam l m a

-- nothing stands past the end
pub at_past : {A : Type 0} (l : List A) (i : ℕ) → length l ≤ i → get_elem? l i ≡ none
at_past [] i le = refl
at_past (x ∷ l) zero le = absurd (omega arith)
at_past (x ∷ l) (suc i) le = at_past l i (omega arith)

module _ {B R : Type 0} (f : B → Option R) (l : List B) where
  -- one more that does not pass, or passes
  pub walk_fails : (i : ℕ) {b : B} → get_elem? l i ≡ some b → f b ≡ none → filter_map f (take (i + 1) l) ≡ filter_map f (take i l)
  unfolding filter_map
  walk_fails i {b} is e = rw (take-with l i b is, filter_map-append f (take i l) (b ∷ []), filter_map-cons-none f b [] e) (append-nil (filter_map f (take i l)))

  pub walk_passes : (i : ℕ) {b : B} {r : R} → get_elem? l i ≡ some b → f b ≡ some r → filter_map f (take (i + 1) l) ≡ with (filter_map f (take i l)) r
  unfolding filter_map
  walk_passes i {b} is e = rw (take-with l i b is, filter_map-append f (take i l) (b ∷ []), filter_map-cons-some f b [] e)

  -- where it stands among those that pass
  pub walk_at : (i : ℕ) {b : B} {r : R} → get_elem? l i ≡ some b → f b ≡ some r → get_elem? (filter_map f l) (length (filter_map f (take i l))) ≡ some r
  walk_at i {b} {r} is e =
      ap (λ m. get_elem? (filter_map f m) (length (filter_map f (take i l)))) (split_here l i b is)
      ∙ ap (λ m. get_elem? m (length (filter_map f (take i l)))) (filter_map-append f (take i l) (b ∷ drop (i + 1) l) ∙ ap (λ m. filter_map f (take i l) ++ m) (filter_map-cons-some f b (drop (i + 1) l) e))
      ∙ at_seam (filter_map f (take i l)) (filter_map f (drop (i + 1) l)) r

  -- all of them
  pub walk_all : (i : ℕ) → length l ≤ i → filter_map f (take i l) ≡ filter_map f l
  walk_all i le = ap (filter_map f) (take_all i l le)

-- ---- bindings
-- none has come at the start
pub passed_none : (n : Net) → passed n 0 ≡ 0
unfolding filter_map
passed_none n = refl

-- all of them have come
pub passed_all : (n : Net) (i : ℕ) → length (bindings n) ≤ i → passed n i ≡ length (rows n)
unfolding rows
passed_all n i le = ap length (walk_all (rowed_if n) (bindings n) i le)

module _ (n : Net) (i : ℕ) {b : Binding} (is : get_elem? (bindings n) i ≡ some b) where
  -- a binding without an effect, and one with an effect
  pub passed-same : effect n b ≡ none → passed n (i + 1) ≡ passed n i
  passed-same e = ap length (walk_fails (rowed_if n) (bindings n) i is (ap (option_map (rowed (order_of b))) e))

  pub passed_more : {w : Weights} → effect n b ≡ some w → passed n (i + 1) ≡ passed n i + 1
  passed_more {w} e =
      ap length (walk_passes (rowed_if n) (bindings n) i is (ap (option_map (rowed (order_of b))) e)) ∙ length-append (rows_among n i) (rowed (order_of b) w ∷ [])

  row_here : {w : Weights} → effect n b ≡ some w → get_elem? (rows n) (passed n i) ≡ some (rowed (order_of b) w)
  unfolding rows
  row_here e = walk_at (rowed_if n) (bindings n) i is (ap (option_map (rowed (order_of b))) e)

  -- it has an effect, or it has none
  abbrev pub takes : Option Weights → Bool
  takes o = given o false λ w. true

  pub effect_passes : takes (effect n b) ≡ true → passed n (i + 1) ≡ passed n i + 1
  effect_passes e = go (effect n b) refl e
    where
      go : (o : Option Weights) → effect n b ≡ o → takes o ≡ true → passed n (i + 1) ≡ passed n i + 1
      go none q f = let z : ◌≡◌ {A = ℕ} 0 1 = cc in absurd (omega arith)
      go (some w) q f = passed_more q

  pub effect_fails : takes (effect n b) ≡ false → passed n (i + 1) ≡ passed n i
  effect_fails e = go (effect n b) refl e
    where
      go : (o : Option Weights) → effect n b ≡ o → takes o ≡ false → passed n (i + 1) ≡ passed n i
      go none q f = passed-same q
      go (some w) q f = let z : ◌≡◌ {A = ℕ} 0 1 = cc in absurd (omega arith)

  -- the row of that number is this binding's
  pub order_here : (row : ℕ) → passed n i ≤ row → row < passed n (i + 1) → order_of_row n row ≡ some (order_of b)
  unfolding order_of_row
  order_here row le lt = go (effect n b) refl
    where
      go : (o : Option Weights) → effect n b ≡ o → order_of_row n row ≡ some (order_of b)
      go none e = absurd (omega (arith, passed-same e))
      go (some w) e = let q : row ≡ passed n i = omega (arith, passed_more e) in rw (q, row_here e)

  -- and its row number
  module _ (limits : Limits n) where
    apart : Apart order_of (bindings n)
    apart = orders_apart n limits.few_variables

    names : named n (order_of b) ≡ some b
    names = order_names n limits.few_variables (at_in (bindings n) i is)

    pub number_passes : passed n i < passed n (i + 1) → passed n i ≡ row_number n (order_of b)
    unfolding rows row_number
    number_passes lt = go (effect n b) refl
      where
        go : (o : Option Weights) → effect n b ≡ o → passed n i ≡ row_number n (order_of b)
        go none e = absurd (omega (arith, passed-same e))
        go (some w) e = rw (at_number order_of (rowed_if n) (λ x. x.order) (λ b r p. (rowed_is n b r p).1) (bindings n) apart (passed n i) (row_here e))

    pub number_fails : passed n (i + 1) ≤ passed n i → no_row ≡ row_number n (order_of b)
    number_fails le = go (effect n b) refl
      where
        go : (o : Option Weights) → effect n b ≡ o → no_row ≡ row_number n (order_of b)
        go none e = sym (absent-row n limits (order_of b) (λ c w g h. let z : ◌≡◌ {A = ℕ} 0 1 = cc (names) in absurd (omega arith)))
        go (some w) e = absurd (omega (arith, passed_more e))

module _ (n : Net) where
  -- no more rows than bindings
  pub passed-most : (i : ℕ) → passed n i ≤ i
  passed-most i = omega (arith, length-filter_map (rowed_if n) (take i (bindings n)), length-take i (bindings n))

  -- past the last row there is no order
  pub order_past : (row : ℕ) → length (rows n) ≤ row → order_of_row n row ≡ none
  unfolding order_of_row
  order_past row le = rw (at_past (rows n) row le)

  module _ (limits : Limits n) (order : List ℕ) where
    -- an order that names no binding has no row; one that names a binding has its row
    pub unnamed_number : named n order ≡ none → no_row ≡ row_number n order
    unnamed_number e = sym (absent-row n limits order (λ b w g h. let z : ◌≡◌ {A = ℕ} 0 1 = cc in absurd (omega arith)))

    pub named-number : {b : Binding} → length order ≡ 6 → named n order ≡ some b → row_number n (order_of b) ≡ row_number n order
    named-number six e = ap (row_number n) (named-order n limits.few_variables order six e).1
