-- Numbering, for any candidates of which some pass: the rows are those that pass, in their sequence, and a row's number and a candidate's code
-- give each other. Assumes nothing.
use mathlib.Core.Path.{◌≡◌, sym, ◌∙◌}
use Rattle.reading.specs.Basics.{ℕ, List, filter_map, Option, some, get_elem?, position, same}
use Rattle.reading.proofs.Lists.{In, at_in, in_at, in_filter_map, of_filter_map, Apart, apart_filter_map, same_true, position_at, at_position}

-- codes tell the candidates apart, and a row's key is its candidate's code
module _ {B R : Type 0} (code : B → List ℕ) (passes : B → Option R) (key : R → List ℕ) (keyed : (b : B) (r : R) → passes b ≡ some r → key r ≡ code b)
    (candidates : List B) (apart : Apart code candidates) where
  -- from a row to its number
  pub at_number : (i : ℕ) {r : R} → get_elem? (filter_map passes candidates) i ≡ some r → position (λ s. same (key s) (key r)) (filter_map passes candidates) ≡ some i
  at_number i e = at_position key i (apart_filter_map key passes keyed apart) e

  -- the row at a number is that of a candidate
  pub row_at : (i : ℕ) {r : R} → get_elem? (filter_map passes candidates) i ≡ some r → (b : B) × In b candidates × (passes b ≡ some r)
  row_at i e = of_filter_map passes candidates (at_in (filter_map passes candidates) i e)

  -- a candidate that passes has a number, and its row stands there
  pub number_of : {b : B} {r : R} → In b candidates → passes b ≡ some r
      → (i : ℕ) × (get_elem? (filter_map passes candidates) i ≡ some r) × (position (λ s. same (key s) (code b)) (filter_map passes candidates) ≡ some i)
  number_of {b} {r} m e =
      let (i, f) = in_at (filter_map passes candidates) (in_filter_map passes candidates m e) in
      (i, f, rw (← keyed b r e) (at_number i f))

  -- a code with a number is that of a candidate that passes, whose row stands there
  pub numbered : (c : List ℕ) {i : ℕ} → position (λ s. same (key s) c) (filter_map passes candidates) ≡ some i
      → (b : B) × (r : R) × In b candidates × (passes b ≡ some r) × (code b ≡ c) × (get_elem? (filter_map passes candidates) i ≡ some r)
  numbered c {i} e =
      let (r, f, t) = position_at (λ s. same (key s) c) (filter_map passes candidates) e in
      let (b, m, p) = row_at i f in
      (b, r, m, p, sym (keyed b r p) ∙ same_true (key r) c t, f)
