-- The call that fires a list of orders, on a net file that is read whole, or refused. Assumes nothing.
use Rattle.std.specs.Prelude.{◌/◌, ◌%◌}
use mathlib.Core.Path.{◌≡◌}
use Prim.Native.Nat.{◌≤◌, ◌<◌}
use borrow.Author.Tests.{le-leb, lt-leb, eq-eqb, ne_eqb}
use Rattle.reading.specs.Basics.{ℕ, List, length, items}
use Rattle.reading.specs.Reading.{accepted, refused}
use Rattle.reading.proofs.Permits.{done, holds, fails, behind}
use Rattle.firing.specs.internal.Loops.{Ran}
use Rattle.firing.proofs.Running as running
use Rattle.firing.proofs.Running.{called, length-items}
use Rattle.net.specs.Net.{Net, flat_place_count}
use Rattle.net_file.specs.NetFile.{read_net}
use Rattle.bindings.specs.Orders.{fire_order, fire_orders}
use Rattle.prepared.specs.internal.Prepared.{Prepared}

-- ---- refused files
pub no_fire : (s : List ℕ) {number place : ℕ} → read_net s ≡ refused number place → (m orders answers : List ℕ) → called (refused number place) m answers ≡ fire_orders s m orders answers
unfolding fire_orders
no_fire s is m orders answers = running.call_refused _ _ _ m _ answers is

-- ---- files that are read
module _ {s plan : List ℕ} {n : Net} (ready : Prepared s n plan) (m : List ℕ) where
  -- a marking of another length
  pub fire_12 : (orders answers : List ℕ) → (length m ≡ flat_place_count n → ⊥) → called (refused 12 0) m answers ≡ fire_orders s m orders answers
  unfolding fire_orders
  fire_12 orders answers h = running.call_stops _ _ _ m _ answers ready.read (fails (ne_eqb _ _ h))

  module _ (fits : length m ≡ flat_place_count n) (orders answers : List ℕ) where
    pub fire_13 : (length orders % 6 ≡ 0 → ⊥) → called (refused 13 0) m answers ≡ fire_orders s m orders answers
    unfolding fire_orders
    fire_13 h = running.call_stops _ _ _ m _ answers ready.read (behind (eq-eqb _ _ fits) (fails (ne_eqb _ _ h)))

    pub fire_14 : length orders % 6 ≡ 0 → length answers < length orders / 6 → called (refused 14 0) m answers ≡ fire_orders s m orders answers
    unfolding fire_orders
    fire_14 e h = running.call_stops _ _ _ m _ answers ready.read (behind (eq-eqb _ _ fits) (behind (eq-eqb _ _ e) (fails (lt-leb _ _ h))))

    pub fire_done : {m' answers' : List ℕ} → length orders % 6 ≡ 0 → length orders / 6 ≤ length answers → Ran (fire_order n) (items 6 orders) m answers m' answers'
        → called (accepted (length orders / 6)) m' answers' ≡ fire_orders s m orders answers
    unfolding fire_orders
    fire_done e h ran =
        running.call_done _ _ _ m _ answers ready.read (holds (eq-eqb _ _ fits) (holds (eq-eqb _ _ e) (holds (le-leb _ _ h) done))) (length-items 6 orders) ran
