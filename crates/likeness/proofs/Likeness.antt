-- Demand 3: the drawing and its flat net behave alike. Assumes nothing.
use Rattle.std.specs.Prelude.{◌∷◌, if◌then◌else◌}
use mathlib.Core.Path.{◌≡◌, refl, sym, ap, ap₂, ◌∙◌}
use mathlib.Core.Logic.{◌↔◌}
use Prim.Native.Nat.{◌<◌}
use native.Mathlib.Omega.{arith}
use borrow.Author.Tests.{ltb-true}
use lib.ListN.{length-map}
use Rattle.reading.specs.Basics.{ℕ, Bool, true, false, List, [], map, flat_map, Option, none, some, option_map, length, get_or, get_elem?, ltb, eqb, given, items, long_at, Bytes}
use Rattle.reading.proofs.Lists.{All, end, also, all_in, in_all, at_below, below_at, at_map, all_map, get_d_at, map_flat, flat_map-same, every_in, in_every}
use Rattle.reading.proofs.Items.{items-joined, of_six, joined_sixes}
use Rattle.firing.specs.Arcs.{row}
use Rattle.flat_file.specs.Flat.{fire_image}
use Rattle.flat_file.specs.Flat as flat
use Rattle.flat_file.proofs.RoundTrip.{round_trip}
use Rattle.flat_file.proofs.OneFile.{one_file}
use Rattle.net.specs.Net.{Net, flat_place_count}
use Rattle.net_file.specs.Limits.{Limits}
use Rattle.net_file.proofs.Limits.{limits}
use Rattle.bindings.specs.Effect.{flat_places, flat_row}
use Rattle.bindings.specs.Orders.{fire_order}
use Rattle.reading.proofs.Clash.{clash}
use Rattle.rows.proofs.FlatPlaces.{flat_places_lem}
use Rattle.row_numbers.specs.Unfolding.{Rowed, rows, initial_at, unfolded, row_number, order_of_row, image, images}
use Rattle.likeness.specs.Demand3.{Orders, guard_holds, RowsHaveOrders, ImagesTell, WayBack, InBytes, SomeFires, Alike, Demand3}
use Rattle.firing.proofs.Weighted.{row_proper}
use Rattle.likeness.proofs.Standing.{Stands, without, within, stands}
use Rattle.row_numbers.proofs.Rows.{rows_few, row-order, number_of_order, order_of_number}
use Rattle.likeness.proofs.Answers.{image_back, order_answered, row_fires, lists_agree, rows_fire_alike}
use Rattle.likeness.proofs.InBytes.{bytes_joined, image_bytes, images_bytes, guarded_bytes}

-- ---- the flat net keeps to the flat file's limits
pub row_count : (n : Net) → length (unfolded n).rows ≡ length (rows n)
unfolding unfolded
row_count n = length-map (rows n) (λ r. flat_row n r.weights)

pub place_count : (n : Net) → length (unfolded n).initial ≡ flat_place_count n
unfolding unfolded
place_count n = length-map (flat_places n) (initial_at n) ∙ flat_places_lem n

-- the row at a number
row_at : (n : Net) (i : ℕ) {r : Rowed} → get_elem? (rows n) i ≡ some r → get_or (unfolded n).rows i (row [] [] []) ≡ flat_row n r.weights
unfolding unfolded
row_at n i e = get_d_at (unfolded n).rows i (row [] [] []) (at_map (λ r. flat_row n r.weights) (rows n) i e)

-- within the limits
pub unfolded_limits : (n : Net) → Limits n → flat.Limits (unfolded n)
unfolded_limits n limits =
    record {
      places = omega (arith, place_count n, limits.flat_places_lem);
      rows = omega (arith, row_count n, rows_few n limits);
      proper = λ i lt. let (r, e) = at_below (rows n) i (omega (arith, row_count n)) in rw (place_count n, row_at n i e) (row_proper (flat_place_count n) r.weights);
    }

module _ (n : Net) (limits : Limits n) where
  -- ---- row numbers tell where guards hold
  pub images_tell : ImagesTell n (unfolded n)
  images_tell order six = go (stands n limits order six)
    where
      go : Stands n order → ((row_number n order ≡ 4294967295) ↔ (guard_holds n order ≡ false)) × (guard_holds n order ≡ true → row_number n order < length (unfolded n).rows)
      go (without e g f) = ((λ q. g, λ q. e), λ h. clash refl h g)
      go (within i w e at g f) =
          let lt = below_at (rows n) i at in
          ((λ q. absurd (omega (arith, rows_few n limits)), λ q. clash refl g q), λ h. omega (arith, row_count n))

  -- the guard of an order with a row's number holds
  row_guarded : (i : ℕ) (order : List ℕ) → i < length (unfolded n).rows → length order ≡ 6 → row_number n order ≡ i → guard_holds n order ≡ true
  row_guarded i order lt six e = go (stands n limits order six)
    where
      go : Stands n order → guard_holds n order ≡ true
      go (without r g f) = absurd (omega (arith, row_count n, rows_few n limits))
      go (within j w r at g f) = g

  -- ---- some order fires exactly when some row does
  zero_as_row : (a : ℕ) → (if eqb a 2 then 1 else a) ≡ 0 → a ≡ 0
  zero_as_row a e = go (eqb a 2) e
    where
      go : (t : Bool) → (if t then 1 else a) ≡ 0 → a ≡ 0
      go true q = absurd (omega arith)
      go false q = q

  pub some_fires : SomeFires n (unfolded n)
  some_fires m sized = (λ a. from_order a.0 a.3 (stands n limits a.0 a.2), λ b. from_row b.0 b.1 b.2)
    where
      from_order : (order : List ℕ) → (fire_order n order m).answer ≡ 0 → Stands n order → (i : ℕ) × (i < length (unfolded n).rows) × ((fire_image (unfolded n) (image i) m).answer ≡ 0)
      from_order order e (without r g f) =
          let q : (if eqb (fire_order n order m).answer 2 then 1 else (fire_order n order m).answer) ≡ 1 = ap (λ x. x.answer) (f m) in
          absurd (let z : ◌≡◌ {A = ℕ} 0 1 = rw e at q in omega arith)
      from_order order e (within i w r at g f) =
          let lt = below_at (rows n) i at in
          (i, omega (arith, row_count n), ap (λ x. x.answer) (row_fires n i m sized at ∙ sym (f m)) ∙ e)

      from_row : (i : ℕ) → i < length (unfolded n).rows → (fire_image (unfolded n) (image i) m).answer ≡ 0 → (order : List ℕ) × Bytes order × (length order ≡ 6) × ((fire_order n order m).answer ≡ 0)
      from_row i lt e =
          let (r, at) = at_below (rows n) i (omega (arith, row_count n)) in
          let (six, number) = row-order n limits i at in
          let answered = order_answered n limits r.order m six sized in
          (r.order, guarded_bytes n limits r.order (row_guarded i r.order lt six number), six, zero_as_row (fire_order n r.order m).answer (sym (ap (λ x. x.answer) (rw number at answered)) ∙ e))

  -- ---- every list of row numbers is the image of one list of orders
  abbrev order_at : ℕ → List ℕ
  order_at i = given (order_of_row n i) [] λ order. order

  -- it carries the row number, has 6 bytes, and its guard holds
  order_there : (i : ℕ) → i < length (unfolded n).rows → (row_number n (order_at i) ≡ i) × (length (order_at i) ≡ 6) × (guard_holds n (order_at i) ≡ true)
  unfolding order_of_row
  order_there i lt =
      let (r, at) = at_below (rows n) i (omega (arith, row_count n)) in
      let (six, number) = row-order n limits i at in
      rw at (number, six, row_guarded i r.order lt six number)

  -- orders with the same images as row numbers are the rows' orders
  only_orders : (orders : List (List ℕ)) {numbers : List ℕ} → All (λ i. i < length (unfolded n).rows) numbers
      → map (λ order. image (row_number n order)) orders ≡ map image numbers → orders ≡ map order_at numbers
  only_orders [] end e = refl
  only_orders [] (also lt few) e = cc
  only_orders (order ∷ orders) end e = cc
  only_orders (order ∷ orders) (also {a = i} {l = numbers} lt few) e =
      let first : image (row_number n order) ≡ image i = cc in
      let number : row_number n order ≡ i = sym (image_back (row_number n order)) ∙ ap (λ x. long_at x 1) first ∙ image_back i in
      let back = order_of_number n limits i order number (omega (arith, row_count n)) in
      let it : order ≡ order_at i = rw back refl in
      ap₂ ◌∷◌ it (only_orders orders few (cc))

  -- exactly one list
  pub rows_have_orders : RowsHaveOrders n (unfolded n)
  unfolding images
  rows_have_orders numbers few = (
    flat_map order_at numbers,
    record {
      bytes = bytes_joined order_at numbers (λ i m. guarded_bytes n limits (order_at i) (all_in guards m));
      sixes = joined_sixes order_at sixes;
      guards = rw split (in_every (guard_holds n) (all_map order_at guards));
      carried = carried;
    },
    only,
  )
    where
      small : All (λ i. i < length (unfolded n).rows) numbers
      small = in_all numbers (λ i m. ltb-true i (length (unfolded n).rows) (all_in (every_in (λ j. ltb j (length (unfolded n).rows)) numbers few) m))

      sixes : All (λ i. length (order_at i) ≡ 6) numbers
      sixes = in_all numbers (λ i m. (order_there i (all_in small m)).1)

      guards : All (λ i. guard_holds n (order_at i) ≡ true) numbers
      guards = in_all numbers (λ i m. (order_there i (all_in small m)).2)

      split : items 6 (flat_map order_at numbers) ≡ map order_at numbers
      split = items-joined 6 (omega arith) order_at sixes

      carried : images n (flat_map order_at numbers) ≡ flat_map image numbers
      carried = ap (flat_map (λ order. image (row_number n order))) split ∙ map_flat order_at (λ order. image (row_number n order)) numbers
          ∙ flat_map-same (λ i. image (row_number n (order_at i))) image numbers (λ i m. ap image (order_there i (all_in small m)).0)

      only : (others : List ℕ) → Orders others → images n others ≡ flat_map image numbers → others ≡ flat_map order_at numbers
      only others whole e =
          let same : map (λ order. image (row_number n order)) (items 6 others) ≡ map image numbers =
          sym (items-joined 5 (omega arith) (λ order. image (row_number n order)) (in_all (items 6 others) (λ order m. refl))) ∙ ap (items 5) e ∙ items-joined 5 (omega arith) image (in_all numbers (λ i m. refl)) in
          sym (of_six others whole).1 ∙ ap (flat_map (λ x. x)) (only_orders (items 6 others) small same) ∙ map_flat order_at (λ x. x) numbers

  -- ---- the way back
  there : (i : ℕ) (order : List ℕ) → order_of_row n i ≡ some order → i < length (unfolded n).rows
  unfolding order_of_row
  there i order e = go (get_elem? (rows n) i) refl e
    where
      go : (o : Option Rowed) → get_elem? (rows n) i ≡ o → option_map (λ r. r.order) o ≡ some order → i < length (unfolded n).rows
      go none q f = let z : ◌≡◌ {A = ℕ} 0 1 = cc in absurd (omega arith)
      go (some r) q f = omega (arith, below_at (rows n) i q, row_count n)

  pub way_back : WayBack n (unfolded n)
  way_back i order =
      (λ e. (there i order e, (number_of_order n limits i e).0), λ b. order_of_number n limits i order b.1 (let lt = b.0 in omega (arith, row_count n)))

  -- ---- all in bytes
  pub in_bytes : InBytes n (unfolded n)
  in_bytes =
      record {
        of_orders = images_bytes n limits;
        of_row = λ i lt. image_bytes i (omega (arith, row_count n, rows_few n limits));
        back = λ i order e. let (number, six) = number_of_order n limits i e in guarded_bytes n limits order (row_guarded i order (there i order e) six number);
      }

-- ---- the demand
pub alike : (n : Net) → Limits n → Alike n (unfolded n)
alike n within-limits =
    record {
      reads_back = round_trip (unfolded n) (unfolded_limits n within-limits);
      exactly = refl;
      nowhere_else = λ t bytes e. one_file t (unfolded n) bytes e;
      lists_agree = lists_agree n within-limits;
      rows_have_orders = rows_have_orders n within-limits;
      rows_fire_alike = rows_fire_alike n within-limits;
      images_tell = images_tell n within-limits;
      way_back = way_back n within-limits;
      in_bytes = in_bytes n within-limits;
      some_fires = some_fires n within-limits;
    }

pub likeness : Demand3
likeness s n e = (unfolded n, alike n (limits s n e))
