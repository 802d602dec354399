-- An image, fired: by its command byte and its row number. A row, fired: as it was loaded. Assumes nothing.
use mathlib.Core.Path.{◌≡◌, sym, subst, ◌∙◌}
use Prim.Native.Nat.{◌≤◌, ◌<◌}
use borrow.Author.Tests.{lt-ltb, le-ltb, eq-eqb, ne_eqb}
use Rattle.reading.specs.Basics.{ℕ, List, [], length, get_or, byte_at, long_at}
use Rattle.firing.specs.Firing.{Fired, fire, fired}
use Rattle.firing.specs.Arcs.{Row, Proper, row, weights}
use Rattle.flat_file.specs.Flat.{Flat, fire_row, fire_image}

module _ (f : Flat) (image m : List ℕ) where
  -- another command byte
  pub no_image : (byte_at image 0 ≡ 0x61 → ⊥) → fired 1 m ≡ fire_image f image m
  unfolding fire_image
  no_image h = rw (ne_eqb (byte_at image 0) 0x61 h)

  -- an image is answered as its row is
  pub image_fires : byte_at image 0 ≡ 0x61 → fire_image f image m ≡ fire_row f (long_at image 1) m
  unfolding fire_image
  image_fires h = rw (eq-eqb (byte_at image 0) 0x61 h)

module _ (f : Flat) (m : List ℕ) (i : ℕ) where
  -- there is no such row
  pub no_row : length f.rows ≤ i → fired 1 m ≡ fire_row f i m
  unfolding fire_row
  no_row h = rw (le-ltb i (length f.rows) h)

  -- a row fires by its weights
  row_fires : i < length f.rows → fire_row f i m ≡ fire [] (weights (get_or f.rows i (row [] [] []))) m
  unfolding fire_row
  row_fires h = rw (lt-ltb i (length f.rows) h)

  -- what holds of the row that was loaded, when it fires, holds of the row of the net
  pub row_loaded : (P : Fired → Type 0) → i < length f.rows → {held loaded : Row} → held ≡ loaded
      → (loaded ≡ get_or f.rows i (row [] [] [])) × Proper (length m) (get_or f.rows i (row [] [] []))
      → (Proper (length m) held → P (fire [] (weights held) m)) → P (fire_row f i m)
  row_loaded P lt e same h =
      let q = e ∙ same.0 in
      subst P (sym (row_fires lt)) (subst (λ w. P (fire [] (weights w) m)) q (h (subst (Proper (length m)) (sym q) same.1)))
