-- Lists of bytes: the order of a row, the images of orders, and lists of them. Assumes nothing.
use Rattle.std.specs.Prelude.{◌&&◌, ◌∷◌}
use mathlib.Core.Path.{◌≡◌, refl}
use Prim.Native.Nat.{◌≤◌, ◌<◌}
use native.Mathlib.Omega.{arith}
use borrow.Author.Tests.{ltb-true, ltb-false, eqb-true}
use lib.ListN.{get_or-eq_default}
use Rattle.reading.specs.Basics.{ℕ, zero, suc, Bool, true, false, List, [], flat_map, Option, none, some, length, get_or, drop, ltb, eqb, given, position, same, byte_at, Bytes, items}
use Rattle.reading.proofs.Lists.{In, All, end, also, all_in, in_all, all_map, in_at, below_at, get_d_at, of_flat_map, every_in, position_at}
use Rattle.reading.proofs.Keeps.{both_true}
use Rattle.net.specs.Net.{Net, Transition, size_of, variables_of, sizes_of, transition_at}
use Rattle.net_file.specs.Limits.{Limits}
use Rattle.bindings.specs.Effect.{Binding}
use Rattle.bindings.specs.Orders.{fits, named}
use Rattle.reading.proofs.Clash.{clash}
use Rattle.bindings.proofs.NamedOrders.{let_through}
use Rattle.row_numbers.specs.Unfolding.{rows, row_number, image, images}
use Rattle.row_numbers.proofs.Rows.{no_row, rows_few}
use Rattle.likeness.specs.Demand3.{guard_holds}

-- ---- any lists
-- each element is a byte
all_bytes_lem : {l : List ℕ} → All (λ b. b < 256) l → Bytes l
all_bytes_lem end i = omega arith
all_bytes_lem (also p q) zero = p
all_bytes_lem (also p q) (suc i) = all_bytes_lem q i

-- lists of bytes joined
pub bytes_joined : {A : Type 0} (f : A → List ℕ) (l : List A) → ((a : A) → In a l → Bytes (f a)) → Bytes (flat_map f l)
bytes_joined f l h =
    all_bytes_lem (in_all (flat_map f l) (λ b m. let (a, i, k) = of_flat_map f l m in let (j, e) = in_at (f a) k in rw (← get_d_at (f a) j 0 e) (h a i j)))

-- the first two are bytes, and those after them
after_two : (l : List ℕ) → byte_at l 0 < 256 → byte_at l 1 < 256 → Bytes (drop 2 l) → Bytes l
after_two [] p q r i = omega arith
after_two (a ∷ l) p q r zero = p
after_two (a ∷ []) p q r (suc i) = omega arith
after_two (a ∷ b ∷ l) p q r (suc zero) = q
after_two (a ∷ b ∷ l) p q r (suc (suc i)) = r i

-- colours that fit small sizes
fits_small : (sizes colours : List ℕ) → All (λ size. size ≤ 64) sizes → fits sizes colours ≡ true → All (λ c. c < 256) colours
unfolding fits
fits_small [] colours few e = in_all colours (λ c m. let z = eqb-true 0 c (all_in (every_in (eqb 0) colours e) m) in omega arith)
fits_small (size ∷ sizes) [] few e = end
fits_small (size ∷ sizes) (c ∷ colours) (also le few) e =
    let (p, q) = both_true (ltb c size) (fits sizes colours) e in
    also {a = c} (omega (arith, ltb-true c size p)) (fits_small sizes colours few q)

-- ---- images
pub image_bytes : (i : ℕ) → i < 4294967296 → Bytes (image i)
image_bytes i lt = all_bytes_lem (also (omega arith) (also (omega arith) (also (omega arith) (also (omega arith) (also (omega arith) end)))))

module _ (n : Net) (limits : Limits n) where
  -- a row number is a u32
  number_small : (order : List ℕ) → row_number n order < 4294967296
  unfolding row_number
  number_small order = go (position (λ r. same r.order order) (rows n)) refl
    where
      go : (o : Option ℕ) → position (λ r. same r.order order) (rows n) ≡ o → given o no_row (λ i. i) < 4294967296
      go none e = omega arith
      go (some i) e = let (r, at, t) = position_at (λ r. same r.order order) (rows n) e in omega (arith, below_at (rows n) i at, rows_few n limits)

  pub images_bytes : (orders : List ℕ) → Bytes (images n orders)
  unfolding images
  images_bytes orders = bytes_joined (λ order. image (row_number n order)) (items 6 orders) (λ order m. image_bytes (row_number n order) (number_small order))

  -- ---- orders
  -- no set has more than 64 colours
  size_small : (set : ℕ) → size_of n set ≤ 64
  size_small set = go (ltb set (length n.sets)) refl
    where
      go : (t : Bool) → ltb set (length n.sets) ≡ t → size_of n set ≤ 64
      go true e = (limits.sizes set (ltb-true set (length n.sets) e)).1
      go false e = let z = get_or-eq_default n.sets 0 (ltb-false set (length n.sets) e) in omega arith

  sizes_small : (t : Transition) → All (λ size. size ≤ 64) (sizes_of n t)
  sizes_small t = all_map (λ v. size_of n (get_or n.variables v 0)) (in_all (variables_of n t) (λ v m. size_small (get_or n.variables v 0)))

  -- an order that names a binding
  named_bytes : (order : List ℕ) {b : Binding} → named n order ≡ some b → Bytes order
  unfolding named
  named_bytes order e =
      let t = byte_at order 1 in
      let sizes = sizes_of n (transition_at n t) in
      let (tests, is) = let_through (eqb (byte_at order 0) 0x60 && ltb t (length n.transitions) && fits sizes (drop 2 order)) e in
      let (front, colours) = both_true (eqb (byte_at order 0) 0x60 && ltb t (length n.transitions)) (fits sizes (drop 2 order)) tests in
      let (opens, lt) = both_true (eqb (byte_at order 0) 0x60) (ltb t (length n.transitions)) front in
      after_two order (omega (arith, eqb-true (byte_at order 0) 0x60 opens)) (omega (arith, ltb-true t (length n.transitions) lt, limits.transitions))
      (all_bytes_lem (fits_small sizes (drop 2 order) (sizes_small (transition_at n t)) colours))

  -- an order whose guard holds
  pub guarded_bytes : (order : List ℕ) → guard_holds n order ≡ true → Bytes order
  guarded_bytes order holds = go (named n order) refl
    where
      go : (o : Option Binding) → named n order ≡ o → Bytes order
      go none e = clash refl holds (rw e)
      go (some b) e = named_bytes order e
