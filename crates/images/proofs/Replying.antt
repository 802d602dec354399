-- The calls for images and for the order of a row, on a net file that is read whole, or refused. Assumes nothing.
use Rattle.std.specs.Prelude.{◌*◌, ◌/◌, ◌%◌}
use Rattle.std.specs.Prelude as reply
use mathlib.Core.Path.{◌≡◌, ap, subst}
use Prim.Native.Nat.{◌≤◌, ◌<◌}
use borrow.Author.Tests.{le-leb, lt-leb, eq-eqb, ne_eqb}
use Rattle.reading.specs.Basics.{ℕ, List, none, some, length, over}
use Rattle.reading.specs.Reading.{Outcome, accepted, refused, refusing}
use Rattle.net.specs.Net.{Net}
use Rattle.prepared.specs.internal.Drawn.{Drawn, net_of}
use Rattle.bindings.specs.internal.Bindings.{numbered}
use Rattle.net_file.specs.NetFile.{read_net}
use Rattle.bindings.specs.Orders.{order_of}
use Rattle.row_numbers.specs.Unfolding.{WriteCall, images, images_call, order_call}
use Rattle.row_numbers.specs.internal.Walked.{LocatedTold}
use Rattle.bindings.specs.Replies.{bytes_of}
use Rattle.bindings.specs.declared.order.Order.{Order}
use Rattle.bindings.specs.declared.binding.Numbered.{Numbered}

-- a result, and the lent list afterwards
abbrev pub wrote : Outcome ℕ → List ℕ → WriteCall
wrote result out = record { result = result; out = out }

-- ---- refused files
module _ (s : List ℕ) {number place : ℕ} (is : read_net s ≡ refused number place) where
  pub no_images : (orders out : List ℕ) → wrote (refused number place) out ≡ images_call s orders out
  unfolding images_call
  no_images orders out = rw is

  pub no_order_told : (row : ℕ) → refused number place ≡ order_call s row
  unfolding order_call
  no_order_told row = rw is

-- ---- files that are read
module _ (s : List ℕ) {n : Net} (is : read_net s ≡ accepted n) where
  -- orders that are not whole, no room for the images, and images
  pub images_13 : (orders out : List ℕ) → (length orders % 6 ≡ 0 → ⊥) → wrote (refused 13 0) out ≡ images_call s orders out
  unfolding images_call refusing
  images_13 orders out h = rw (is, ne_eqb (length orders % 6) 0 h)

  module _ (orders out : List ℕ) (whole : length orders % 6 ≡ 0) where
    pub images_14 : length out < length orders / 6 * 5 → wrote (refused 14 0) out ≡ images_call s orders out
    unfolding images_call refusing
    images_14 h = rw (is, eq-eqb (length orders % 6) 0 whole, lt-leb (length orders / 6 * 5) (length out) h)

    pub images_done : (after : List ℕ) → length orders / 6 * 5 ≤ length out → after ≡ over (images n orders) out → wrote (accepted (length orders / 6)) after ≡ images_call s orders out
    unfolding images_call refusing
    images_done after h e = rw (is, eq-eqb (length orders % 6) 0 whole, le-leb (length orders / 6 * 5) (length out) h, e)

-- no such row, and the order of a row
module _ (s : List ℕ) (row : ℕ) (d : Drawn) (is : read_net s ≡ accepted (net_of d)) where
  pub order_none : {r : reply.Option Numbered} → r ≡ reply.None → LocatedTold d row r → accepted none ≡ order_call s row
  unfolding order_call
  order_none e h = rw (is, subst (LocatedTold d row) e h)

  pub order_found : {b : Numbered} {r : reply.Option Numbered} (o : Order) → r ≡ reply.Some b → LocatedTold d row r
      → bytes_of o ≡ order_of (numbered (net_of d) b.transition b.index) → accepted (some (bytes_of o)) ≡ order_call s row
  unfolding order_call
  order_found o e h f = rw (is, (subst (LocatedTold d row) e h).1) (ap (λ l. accepted (some l)) f)
