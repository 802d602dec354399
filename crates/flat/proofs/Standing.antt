-- The rows of a net that was read, as the engine meets them. Assumes nothing.
use Rattle.std.specs.Prelude.{take}
use Rattle.std.proofs.lemmas.List.{length-take-le}
use Rattle.std.proofs.Common.{get_or-take}
use mathlib.Core.Path.{◌≡◌, sym, ap, ◌∙◌}
use Prim.Native.Nat.{◌≤◌, ◌<◌}
use native.Mathlib.Omega.{arith}
use Rattle.reading.specs.Basics.{ℕ, List, length, get_or}
use Rattle.flat_file.specs.Flat.{Flat}
use Rattle.flat_file.specs.internal.ReaderEnums.{FlatHeld, arcs_at}
use Rattle.flat.specs.internal.Stand.{is_fine, AllStand}

-- the starts of all rows of a net that is held, in the front of a list
module _ {s starts : List ℕ} {places rows : ℕ} {f : Flat} (held : FlatHeld s starts places rows f) (fits : rows ≤ length starts) where
  pub front_long : length (take rows starts) ≡ rows
  front_long = length-take-le rows starts fits

  front_at : (i : ℕ) → i < rows → get_or (take rows starts) i 0 ≡ get_or starts i 0
  front_at i h = get_or-take rows starts i 0 h

  pub held_front : FlatHeld s (take rows starts) places (length (take rows starts)) f
  held_front =
      record {
        is = held.is;
        places_are = held.places_are;
        rows_are = held.rows_are ∙ sym front_long;
        few_places = held.few_places;
        fits = omega (arith, front_long, held.fits);
        stands = λ i h k. let lt : i < rows = omega (arith, front_long) in let x = held.stands i lt (omega arith) in (x.0, ap (arcs_at s places) (front_at i lt) ∙ x.1);
      }

  pub all_stand : AllStand s places (take rows starts)
  all_stand i h = let lt : i < rows = omega (arith, front_long) in ap is_fine (ap (arcs_at s places) (front_at i lt) ∙ (held.stands i lt (omega arith)).1)
