-- The row number of an order, by the table; and images, order after order. Assumes nothing.
use Rattle.std.specs.Prelude.{◌+◌, ◌*◌, ◌/◌, ◌∷◌}
use mathlib.Core.Path.{◌≡◌, refl, ap, ◌∙◌}
use Prim.Native.Nat.{◌≤◌, ◌<◌}
use native.Mathlib.Omega.{arith}
use native.Mathlib.Numerals.{add-one}
use lib.Seq.{drop-cons}
use Rattle.reading.specs.Basics.{ℕ, zero, suc, List, [], none, length, take, drop, items, over}
use Rattle.reading.proofs.Lists.{get_d_at}
use Rattle.firing.proofs.Running.{item_at, length-items}
use Rattle.net.specs.Net.{Net}
use Rattle.net_file.specs.Limits.{Limits}
use Rattle.bindings.specs.Orders.{named}
use Rattle.bindings.specs.internal.Naming.{Names}
use Rattle.row_numbers.specs.Unfolding.{row_number, image, images}
use Rattle.row_numbers.specs.internal.Walked.{order_at}
use Rattle.flat_file.specs.internal.Output.{Appended}
use Rattle.row_numbers.proofs.Rows.{no_row}
use Rattle.row_numbers.proofs.Walking.{unnamed_number, named-number}
use Rattle.flat_file.proofs.Appending.{Going, go_on, go_end, append_all}

-- ---- one order
module _ {n : Net} (limits : Limits n) (order : List ℕ) where
  -- it names no binding
  pub no_binding : named n order ≡ none → no_row ≡ row_number n order
  no_binding e = unnamed_number n limits order e

  -- the number of the binding that it names
  pub the_number : {env : List ℕ} {t index x : ℕ} → length order ≡ 6 → Names n order t index env → x ≡ row_number n (order_at n t index) → x ≡ row_number n order
  the_number six it e = e ∙ named-number n limits order six it.is

-- ---- order after order
drop_past : {A : Type 0} (l : List A) (i : ℕ) → length l ≤ i → drop i l ≡ []
drop_past [] zero h = refl
drop_past [] (suc i) h = refl
drop_past (x ∷ l) zero h = absurd (omega arith)
drop_past (x ∷ l) (suc i) h = drop_past l i (omega arith)

module _ (orders : List ℕ) (i : ℕ) where
  pub next_order : i < length orders / 6 → drop i (items 6 orders) ≡ take 6 (drop (i * 6) orders) ∷ drop (i + 1) (items 6 orders)
  next_order lt =
      let len = length-items 6 orders in
      rw add-one (drop-cons (items 6 orders) i [] (omega arith) ∙ ap (λ o. o ∷ drop (suc i) (items 6 orders)) (get_d_at (items 6 orders) i [] (item_at 6 orders i lt)))

  pub last_order : length orders / 6 ≤ i → drop i (items 6 orders) ≡ []
  last_order le = drop_past (items 6 orders) i (omega (arith, length-items 6 orders))

-- the image of each order so far
abbrev pub Imaging : Net → List ℕ → List ℕ → List ℕ → ℕ → ℕ → Type 0
Imaging n orders entry out i at = Going (λ order. image (row_number n order)) (items 6 orders) (drop i (items 6 orders)) entry out 0 at

pub image_next : (n : Net) (orders : List ℕ) {entry out after : List ℕ} {i at next row : ℕ} → Imaging n orders entry out i at → i < length orders / 6
    → row ≡ row_number n (take 6 (drop (i * 6) orders)) → Appended out after at next (image row) → Imaging n orders entry after (i + 1) next
image_next n orders {i = i} here lt e x = go_on (λ order. image (row_number n order)) here (next_order orders i lt) (rw e at x)

pub image_end : (n : Net) (orders : List ℕ) {entry out : List ℕ} {i at : ℕ} → Imaging n orders entry out i at → length orders / 6 ≤ i → out ≡ over (images n orders) entry
unfolding images
image_end n orders {i = i} here le = append_all (go_end (λ order. image (row_number n order)) here (last_order orders i le))
