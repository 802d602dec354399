-- The calls on a flat file that is read whole, or refused. Assumes nothing.
use Rattle.std.specs.Prelude.{◌/◌, ◌%◌, Result, Ok, Err}
use mathlib.Core.Path.{◌≡◌, sym, ap, ◌∙◌}
use Prim.Native.Nat.{◌≤◌, ◌<◌}
use borrow.Author.Tests.{le-leb, lt-leb, eq-eqb, ne_eqb}
use Rattle.reading.specs.Basics.{ℕ, List, length, eqb, below, items}
use Rattle.reading.specs.Reading.{accepted, refused}
use Rattle.reading.specs.declared.refusal.Refusal.{Refusal}
use Rattle.reading.proofs.Permits.{done, holds, fails, behind}
use Rattle.firing.specs.Firing.{First, first}
use Rattle.firing.specs.internal.Loops.{Ran}
use Rattle.firing.proofs.Running as running
use Rattle.firing.proofs.Running.{called, length-items}
use Rattle.flat_file.specs.Flat.{Flat, read_flat, fire_row, fire_image, flat_sizes, fire_images, first_row}
use Rattle.flat_file.specs.internal.ReaderEnums.{FlatHeld, Scanned}
use Rattle.flat_file.specs.declared.reader.FlatSizes.{FlatSizes}
use Rattle.flat.specs.Replies.{sizes_reply}

-- ---- refused files
module _ (s : List ℕ) {number place : ℕ} (is : read_flat s ≡ refused number place) where
  pub no_sizes : refused number place ≡ flat_sizes s
  unfolding flat_sizes
  no_sizes = rw is

  pub no_first : (m : List ℕ) → refused number place ≡ first_row s m
  unfolding first_row
  no_first m = running.first_refused _ _ _ _ m is

  pub no_fire : (m images answers : List ℕ) → called (refused number place) m answers ≡ fire_images s m images answers
  unfolding fire_images
  no_fire m images answers = running.call_refused _ _ _ m _ answers is

-- ---- files that are read
module _ {s starts : List ℕ} {places rows : ℕ} {f : Flat} (held : FlatHeld s starts places rows f) where
  pub the_sizes : accepted (record { places = places; rows = rows }) ≡ flat_sizes s
  unfolding flat_sizes
  the_sizes = rw (held.is, held.places_are, held.rows_are)

  -- a marking of another length
  wrong : (m : List ℕ) → (length m ≡ places → ⊥) → length m ≡ length f.initial → ⊥
  wrong m h e = h (e ∙ held.places_are)

  pub first_12 : (m : List ℕ) → (length m ≡ places → ⊥) → refused 12 0 ≡ first_row s m
  unfolding first_row
  first_12 m h = running.first_stops _ _ _ _ m held.is (fails (ne_eqb _ _ (wrong m h)))

  pub fire_12 : (m images answers : List ℕ) → (length m ≡ places → ⊥) → called (refused 12 0) m answers ≡ fire_images s m images answers
  unfolding fire_images
  fire_12 m images answers h = running.call_stops _ _ _ m _ answers held.is (fails (ne_eqb _ _ (wrong m h)))

  module _ (m : List ℕ) (fits : length m ≡ places) where
    fitting : length m ≡ length f.initial
    fitting = fits ∙ sym held.places_are

    -- the first row that fires, as a search tells it
    pub first_is : {n : ℕ} {x : First ℕ} → n ≡ rows → first (λ i. eqb (fire_row f i m).answer 0) (below n) ≡ x → accepted x ≡ first_row s m
    unfolding first_row
    first_is e g = running.first_is_lem _ _ _ _ m held.is (holds (eq-eqb _ _ fitting) done) (ap (λ n. first (λ i. eqb (fire_row f i m).answer 0) (below n)) (held.rows_are ∙ sym e) ∙ g)

    module _ (images answers : List ℕ) where
      pub fire_13 : (length images % 5 ≡ 0 → ⊥) → called (refused 13 0) m answers ≡ fire_images s m images answers
      unfolding fire_images
      fire_13 h = running.call_stops _ _ _ m _ answers held.is (behind (eq-eqb _ _ fitting) (fails (ne_eqb _ _ h)))

      pub fire_14 : length images % 5 ≡ 0 → length answers < length images / 5 → called (refused 14 0) m answers ≡ fire_images s m images answers
      unfolding fire_images
      fire_14 e h = running.call_stops _ _ _ m _ answers held.is (behind (eq-eqb _ _ fitting) (behind (eq-eqb _ _ e) (fails (lt-leb _ _ h))))

      pub fire_done : {m' answers' : List ℕ} → length images % 5 ≡ 0 → length images / 5 ≤ length answers → Ran (fire_image f) (items 5 images) m answers m' answers'
          → called (accepted (length images / 5)) m' answers' ≡ fire_images s m images answers
      unfolding fire_images
      fire_done e h ran =
          running.call_done _ _ _ m _ answers held.is (holds (eq-eqb _ _ fitting) (holds (eq-eqb _ _ e) (holds (le-leb _ _ h) done))) (length-items 5 images) ran

-- how many flat places and rows
pub the_reply : (s starts : List ℕ) (r : Result FlatSizes Refusal) → Scanned s starts r → sizes_reply r ≡ flat_sizes s
the_reply s starts (Ok sizes) h = the_sizes h.1
the_reply s starts (Err e) h = no_sizes s h
