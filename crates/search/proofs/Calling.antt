-- The call for the first order that fires, on a net file that is read whole, or refused. Assumes nothing.
use mathlib.Core.Path.{◌≡◌}
use borrow.Author.Tests.{eq-eqb, ne_eqb}
use Rattle.reading.specs.Basics.{ℕ, List, length}
use Rattle.reading.specs.Reading.{accepted, refused}
use Rattle.reading.proofs.Permits.{done, holds, fails}
use Rattle.firing.specs.Firing.{First}
use Rattle.firing.proofs.Running as running
use Rattle.net.specs.Net.{Net, flat_place_count}
use Rattle.net_file.specs.NetFile.{read_net}
use Rattle.bindings.specs.Orders.{first_order}
use Rattle.search.specs.internal.Searched.{first_fires}

-- ---- refused files
pub no_first : (s : List ℕ) {number place : ℕ} → read_net s ≡ refused number place → (m : List ℕ) → refused number place ≡ first_order s m
unfolding first_order
no_first s is m = running.first_refused _ _ _ _ m is

-- ---- files that are read
module _ (s : List ℕ) {n : Net} (read : read_net s ≡ accepted n) (m : List ℕ) where
  -- a marking of another length
  pub first_12 : (length m ≡ flat_place_count n → ⊥) → refused 12 0 ≡ first_order s m
  unfolding first_order
  first_12 h = running.first_stops _ _ _ _ m read (fails (ne_eqb _ _ h))

  -- as the search tells it
  pub first_is_lem : length m ≡ flat_place_count n → {x : First (List ℕ)} → first_fires n m ≡ x → accepted x ≡ first_order s m
  unfolding first_order
  first_is_lem fits e = running.first_is_lem _ _ _ _ m read (holds (eq-eqb _ _ fits) done) e
