-- Each order is answered as its image is, and so is each list of orders. Assumes nothing.
use Rattle.std.specs.Prelude.{◌∷◌}
use mathlib.Core.Path.{◌≡◌, refl, sym, ap, ap₂, ◌∙◌}
use Prim.Native.Nat.{◌≤◌, ◌<◌}
use native.Mathlib.Omega.{arith}
use borrow.Author.Tests.{lt-ltb, le-ltb}
use lib.ListN.{length-map}
use Rattle.reading.specs.Basics.{ℕ, true, List, [], map, Option, none, some, length, get_elem?, given, items, long_at}
use Rattle.reading.proofs.Lists.{All, end, also, in_all, at_map, below_at, get_d_at, every_in}
use Rattle.reading.proofs.Items.{items-joined, of_six}
use Rattle.firing.specs.Firing.{Weights, fired, fire, run}
use Rattle.firing.specs.Arcs.{row, weights}
use Rattle.firing.proofs.Agree.{fire-same, by_answer, fire-length}
use Rattle.flat_file.specs.Flat.{fire_row, fire_image}
use Rattle.net.specs.Net.{Net, flat_place_count}
use Rattle.net_file.specs.Limits.{Limits}
use Rattle.bindings.specs.Effect.{Binding, effect, flat_row}
use Rattle.bindings.specs.Orders.{named, fire_order}
use Rattle.reading.proofs.Clash.{clash}
use Rattle.row_numbers.specs.Unfolding.{Rowed, rows, unfolded, row_number, image, images}
use Rattle.likeness.specs.Demand3.{Marking, guard_holds, as_row, ListsAgree, RowsFireAlike}
use Rattle.firing.proofs.Weighted.{row_agrees}
use Rattle.likeness.proofs.Standing.{Stands, without, within, stands}
use Rattle.row_numbers.proofs.Rows.{no_row, rows_few}

-- an image carries its number
pub image_back : (i : ℕ) → long_at (image i) 1 ≡ i
image_back i = omega arith

-- the firing rule never answers 2
fire_as_row : (caps : List ℕ) (w : Weights) (m : List ℕ) → as_row (fire caps w m) ≡ fire caps w m
fire_as_row caps w m = by_answer caps w m (λ f. as_row f ≡ f) refl refl refl (λ e. refl)

-- firing an order keeps the number of counts
pub order_keeps : (n : Net) (order m : List ℕ) → length (fire_order n order m).marking ≡ length m
unfolding fire_order
order_keeps n order m = by_name (named n order)
  where
    by_effect : (o : Option Weights) → length (given o (fired 2 m) λ w. fire [] w m).marking ≡ length m
    by_effect none = refl
    by_effect (some w) = fire-length [] w m

    by_name : (o : Option Binding) → length (given o (fired 1 m) λ b. given (effect n b) (fired 2 m) λ w. fire [] w m).marking ≡ length m
    by_name none = refl
    by_name (some b) = by_effect (effect n b)

-- a row fires by its binding's weights, and where there is no row the answer is 1
module _ (n : Net) where
  -- by its weights
  pub row_fires : (i : ℕ) {r : Rowed} (m : List ℕ) → Marking n m → get_elem? (rows n) i ≡ some r → fire_image (unfolded n) (image i) m ≡ fire [] r.weights m
  unfolding fire_image fire_row unfolded
  row_fires i {r} m sized e =
      let lt : i < length (map (λ x. flat_row n x.weights) (rows n)) = rw length-map (below_at (rows n) i e) in
      rw (
        image_back i,
        lt-ltb i (length (map (λ x. flat_row n x.weights) (rows n))) lt,
        get_d_at (map (λ x. flat_row n x.weights) (rows n)) i (row [] [] []) (at_map (λ x. flat_row n x.weights) (rows n) i e),
      )
      (fire-same [] (weights (flat_row n r.weights)) r.weights m (rw sized (row_agrees (flat_place_count n) r.weights)))

  -- no such row
  pub no_row_fires : (i : ℕ) (m : List ℕ) → length (rows n) ≤ i → fire_image (unfolded n) (image i) m ≡ fired 1 m
  unfolding fire_image fire_row unfolded
  no_row_fires i m le =
      rw (image_back i, le-ltb i (length (map (λ x. flat_row n x.weights) (rows n))) (rw length-map le))

  module _ (limits : Limits n) where
    -- one order
    pub order_answered : (order m : List ℕ) → length order ≡ 6 → Marking n m → fire_image (unfolded n) (image (row_number n order)) m ≡ as_row (fire_order n order m)
    order_answered order m six sized = go (stands n limits order six)
      where
        go : Stands n order → fire_image (unfolded n) (image (row_number n order)) m ≡ as_row (fire_order n order m)
        go (without e g f) = rw (e, f m) (no_row_fires no_row m (let h = rows_few n limits in omega arith))
        go (within i w e at g f) = rw (e, f m, fire_as_row [] w m) (row_fires i m sized at)

    -- orders in turn
    in_turn : (m : List ℕ) {orders : List (List ℕ)} → Marking n m → All (λ order. length order ≡ 6) orders
        → run (fire_image (unfolded n)) m (map (λ order. image (row_number n order)) orders) ≡ map as_row (run (fire_order n) m orders)
    unfolding run
    in_turn m sized end = refl
    in_turn m sized (also {a = order} {l = orders} six rest) =
        rw (order_answered order m six sized)
        (ap (λ l. as_row (fire_order n order m) ∷ l) (in_turn (fire_order n order m).marking (order_keeps n order m ∙ sized) rest))

    -- all lists
    pub lists_agree : ListsAgree n (unfolded n)
    unfolding images
    lists_agree m orders sized sixes =
        ap (run (fire_image (unfolded n)) m) (items-joined 5 (omega arith) (λ order. image (row_number n order)) (in_all (items 6 orders) (λ order i. refl)))
        ∙ in_turn m sized (of_six orders sixes).0

    -- ---- where every guard holds no answer is 2
    guarded_as_row : (order m : List ℕ) → length order ≡ 6 → guard_holds n order ≡ true → as_row (fire_order n order m) ≡ fire_order n order m
    guarded_as_row order m six holds = go (stands n limits order six)
      where
        go : Stands n order → as_row (fire_order n order m) ≡ fire_order n order m
        go (without e g f) = clash refl holds g
        go (within i w e at g f) = rw (f m) (fire_as_row [] w m)

    all_as_rows : (m : List ℕ) {orders : List (List ℕ)} → All (λ order. length order ≡ 6) orders → All (λ order. guard_holds n order ≡ true) orders
        → map as_row (run (fire_order n) m orders) ≡ run (fire_order n) m orders
    unfolding run
    all_as_rows m end end = refl
    all_as_rows m (also {a = order} six rest) (also holds others) = ap₂ ◌∷◌ (guarded_as_row order m six holds) (all_as_rows (fire_order n order m).marking rest others)

    -- the rows of such a list fire as its orders do
    pub rows_fire_alike : RowsFireAlike n (unfolded n)
    rows_fire_alike m numbers orders sized ordered =
        let split : items 5 (images n orders) ≡ map image numbers = ap (items 5) ordered.carried ∙ items-joined 5 (omega arith) image (in_all numbers (λ i m. refl)) in
        ap (run (fire_image (unfolded n)) m) (sym split)
        ∙ lists_agree m orders sized ordered.sixes
        ∙ all_as_rows m (of_six orders ordered.sixes).0 (every_in (guard_holds n) (items 6 orders) ordered.guards)
