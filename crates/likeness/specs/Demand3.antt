-- Demand 3, stated: the drawing and its flat net behave alike. Types only, no proof.
use Rattle.std.specs.Prelude.{◌≡◌, ◌↔◌, ◌<◌, ◌*◌, ◌%◌, if◌then◌else◌}
use Rattle.reading.specs.Basics.{Bool, true, false, List, map, flat_map, some, ℕ, length, take, ltb, eqb, given, every, Bytes, items, over}
use Rattle.reading.specs.Reading.{Outcome, accepted, refused, on}
use Rattle.firing.specs.Firing.{Fired, fired, run, First, found, nothing}
use Rattle.firing.specs.Calls.{FireCall}
use Rattle.flat_file.specs.Flat.{Flat, read_flat, fire_image, fire_images, first_row}
use Rattle.net.specs.Net.{Net, flat_place_count}
use Rattle.net_file.specs.NetFile.{read_net}
use Rattle.bindings.specs.Effect.{guard_true}
use Rattle.bindings.specs.Orders.{named, fire_order, fire_orders, first_order}
use Rattle.row_numbers.specs.Unfolding.{unfolded, flat_file, row_number, order_of_row, image, images, unfold_call, images_call, order_call}

-- a marking of a net: one count for each flat place
abbrev pub Marking : Net → List ℕ → Type 0
Marking n m = length m ≡ flat_place_count n

-- a list of orders: 6 bytes each, of which nothing more is asked
abbrev pub Orders : List ℕ → Type 0
Orders orders = length orders % 6 ≡ 0

-- an order names a binding whose guard holds
abbrev pub guard_holds : Net → List ℕ → Bool
guard_holds n order = given (named n order) false (guard_true n)

-- an order's answer as its row gives it: 2 reads as 1
abbrev pub two_as_one : ℕ → ℕ
two_as_one answer = if eqb answer 2 then 1 else answer

abbrev pub as_row : Fired → Fired
as_row f = fired (two_as_one f.answer) f.marking

-- from every marking, for every whole list of orders: each is answered as its image is, and leaves the same marking
abbrev pub ListsAgree : Net → Flat → Type 0
ListsAgree n f = (m orders : List ℕ) → Marking n m → Orders orders →
    run (fire_image f) m (items 5 (images n orders)) ≡ map as_row (run (fire_order n) m (items 6 orders))

-- a list of orders, made of bytes, with all guards holding, whose images carry these row numbers
pub record Ordered (n : Net) (numbers orders : List ℕ) : Type 0 where
  pub bytes : Bytes orders
  pub sixes : Orders orders
  pub guards : every (guard_holds n) (items 6 orders) ≡ true
  pub carried : images n orders ≡ flat_map image numbers

-- every list of row numbers below the row count is the image of exactly one list of orders, and all their guards hold
abbrev pub RowsHaveOrders : Net → Flat → Type 0
RowsHaveOrders n f = (numbers : List ℕ) → every (λ i. ltb i (length f.rows)) numbers ≡ true →
    (orders : List ℕ) × Ordered n numbers orders
    × ((others : List ℕ) → Orders others → images n others ≡ flat_map image numbers → others ≡ orders)

-- and that list fires as its rows do: the same answers, none of them 2, and the same markings
abbrev pub RowsFireAlike : Net → Flat → Type 0
RowsFireAlike n f = (m numbers orders : List ℕ) → Marking n m → Ordered n numbers orders →
    run (fire_image f) m (map image numbers) ≡ run (fire_order n) m (items 6 orders)

-- an order's row number is 4,294,967,295 exactly where it names no binding or its guard is false, and below the row count otherwise
abbrev pub ImagesTell : Net → Flat → Type 0
ImagesTell n f = (order : List ℕ) → length order ≡ 6 →
    ((row_number n order ≡ 4294967295) ↔ (guard_holds n order ≡ false))
    × (guard_holds n order ≡ true → row_number n order < length f.rows)

-- the way back and the images are inverse: a row's order is the one that leads to the row, none where there is no such row
abbrev pub WayBack : Net → Flat → Type 0
WayBack n f = (i : ℕ) (order : List ℕ) → (order_of_row n i ≡ some order) ↔ ((i < length f.rows) × (row_number n order ≡ i))

-- what images and the way back give are bytes: the images of orders, the image of a row number, the order of a row
pub record InBytes (n : Net) (f : Flat) : Type 0 where
  pub of_orders : (orders : List ℕ) → Bytes (images n orders)
  pub of_row : (i : ℕ) → i < length f.rows → Bytes (image i)
  pub back : (i : ℕ) (order : List ℕ) → order_of_row n i ≡ some order → Bytes order

-- some order, 6 bytes, is answered 0 exactly when some row is; a row is answered as its image is
abbrev pub SomeFires : Net → Flat → Type 0
SomeFires n f = (m : List ℕ) → Marking n m →
    ((order : List ℕ) × Bytes order × (length order ≡ 6) × ((fire_order n order m).answer ≡ 0))
    ↔ ((i : ℕ) × (i < length f.rows) × ((fire_image f (image i) m).answer ≡ 0))

-- a net n and the flat net f that the flat reader finds in the bytes that unfold writes
pub record Alike (n : Net) (f : Flat) : Type 0 where
  pub reads_back : read_flat (flat_file n) ≡ accepted f
  pub exactly : f ≡ unfolded n
  -- and in no other bytes
  pub nowhere_else : (t : List ℕ) → Bytes t → read_flat t ≡ accepted f → t ≡ flat_file n
  pub lists_agree : ListsAgree n f
  pub rows_have_orders : RowsHaveOrders n f
  pub rows_fire_alike : RowsFireAlike n f
  pub images_tell : ImagesTell n f
  pub way_back : WayBack n f
  pub in_bytes : InBytes n f
  pub some_fires : SomeFires n f

-- so it is for every net file that is accepted
abbrev pub Demand3 : Type 0
Demand3 = (s : List ℕ) (n : Net) → read_net s ≡ accepted n → (f : Flat) × Alike n f

-- ---- once more, over the calls: on the bytes that the unfolding and the images left in lent lists
-- a call on the drawing as the rows give it: each answer written, 2 reading as 1
abbrev pub as_rows : FireCall → FireCall
as_rows c =
    record {
      result = c.result;
      marking = c.marking;
      answers = on c.result (λ number place. c.answers) λ count. over (map two_as_one (take count c.answers)) c.answers;
    }

-- for every marking, every list of orders and every lent list, refusals included
abbrev pub FireCallsAgree : Type 0
FireCallsAgree = (s m orders answers flatOut imagesOut : List ℕ) (bytes count : ℕ)
    → (unfold_call s flatOut).result ≡ accepted bytes → (images_call s orders imagesOut).result ≡ accepted count
    → fire_images (take bytes (unfold_call s flatOut).out) m (take (count * 5) (images_call s orders imagesOut).out) answers ≡ as_rows (fire_orders s m orders answers)

-- the first order that fires is the order of the first row that does
pub data FirstAlike (s : List ℕ) : Outcome (First (List ℕ)) → Outcome (First ℕ) → Type 0 where
  both_found : {order : List ℕ} {i tried rowsTried : ℕ} → order_call s i ≡ accepted (some order)
      → FirstAlike s (accepted (found order tried)) (accepted (found i rowsTried))
  both_nothing : {tried rowsTried : ℕ} → FirstAlike s (accepted (nothing tried)) (accepted (nothing rowsTried))
  both_refused : {number place : ℕ} → FirstAlike s (refused number place) (refused number place)

abbrev pub FirstCallsAgree : Type 0
FirstCallsAgree = (s m flatOut : List ℕ) (bytes : ℕ) → (unfold_call s flatOut).result ≡ accepted bytes
    → FirstAlike s (first_order s m) (first_row (take bytes (unfold_call s flatOut).out) m)
