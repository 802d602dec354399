-- The table of initial counts is the flat net's. Assumes nothing.
use Rattle.std.specs.Prelude.{◌+◌, ◌∷◌, ◌++◌}
use mathlib.Core.Path.{◌≡◌, refl, sym, ap, ap₂, ◌∙◌}
use mathlib.Core.List.{append_assoc, append-nil, map-append}
use Prim.Native.Nat.{◌≤◌, ◌<◌}
use native.Mathlib.Omega.{arith}
use native.Mathlib.Nat.{add-zero}
use native.Mathlib.Numerals.{add-one}
use lib.Seq.{take-suc, take-length}
use Rattle.reading.specs.Basics.{ℕ, zero, suc, List, [], map, flat_map, length, get_or, take, given, with, numbers_from, below, sum}
use Rattle.reading.proofs.Lists.{map-map, map_same, of_from, flat_append}
use Rattle.net.specs.Net.{Net, colours_of, place_at, flat_place_count, tokens_on}
use Rattle.net_transitions.proofs.Spaces.{below_next}
use Rattle.bindings.specs.Effect.{FlatPlace, flat_places}
use Rattle.prepared.specs.internal.Drawing.{start_of}
use Rattle.prepared.specs.internal.Prepared.{InitialCounts}
use Rattle.prepared.proofs.Starts.{start_next, start_low}
use Rattle.row_numbers.specs.Unfolding.{unfolded, initial_at}

-- so many elements more
take_on : (l : List ℕ) (a c : ℕ) → a + c ≤ length l → take (a + c) l ≡ take a l ++ map (λ r. get_or l (a + r) 0) (below c)
unfolding numbers_from
take_on l a zero h = rw (add-zero a) (sym (append-nil (take a l)))
take_on l a (suc c) h =
    let e : a + suc c ≡ suc (a + c) = omega arith in
    let b : below (suc c) ≡ with (below c) c = rw add-one at (below_next c) in
    let f : ℕ → ℕ = λ r. get_or l (a + r) 0 in
    ap (λ k. take k l) e
    ∙ take-suc l (a + c) 0 (omega arith)
    ∙ ap (λ m. m ++ (f c ∷ [])) (take_on l a c (omega arith))
    ∙ append_assoc (take a l) (map f (below c)) (f c ∷ [])
    ∙ ap (λ m. take a l ++ m) (sym (map-append f (below c) (c ∷ [])) ∙ ap (map f) (sym b))

module _ (n : Net) (initial : List ℕ) (marked : InitialCounts n initial) (room : flat_place_count n ≤ length initial) where
  abbrev ranks_of : ℕ → List FlatPlace
  ranks_of p = map (λ rank. record { place = p; rank = rank }) (below (colours_of n (place_at n p)))

  -- of one place
  ranks_counted : (p : ℕ) → p < length n.places → map (initial_at n) (ranks_of p) ≡ map (λ r. get_or initial (start_of n p + r) 0) (below (colours_of n (place_at n p)))
  ranks_counted p h =
      let c : ℕ = colours_of n (place_at n p) in
      map-map (λ rank. record { place = p; rank = rank }) (initial_at n) (below c)
      ∙ map_same (λ rank. given (tokens_on n.tokens p rank) 0 (λ t. t.count)) (λ r. get_or initial (start_of n p + r) 0) (below c)
      (λ r m. sym (marked.count p r h (omega (arith, of_from 0 c m)) (omega (arith, of_from 0 c m, start_next n p h, start_low n (p + 1)))))

  -- of the places below a number
  places_counted : (p : ℕ) → p ≤ length n.places → map (initial_at n) (flat_map ranks_of (below p)) ≡ take (start_of n p) initial
  unfolding numbers_from flat_map
  places_counted zero h = refl
  places_counted (suc p) h =
      let c : ℕ = colours_of n (place_at n p) in
      let b : below (suc p) ≡ with (below p) p = rw add-one at (below_next p) in
      let s : start_of n (suc p) ≡ start_of n p + c = rw add-one at (start_next n p (omega arith)) in
      let one : flat_map ranks_of (p ∷ []) ≡ ranks_of p = append-nil (ranks_of p) in
      ap (λ l. map (initial_at n) (flat_map ranks_of l)) b
      ∙ ap (map (initial_at n)) (flat_append ranks_of (below p) (p ∷ []) ∙ ap (λ l. flat_map ranks_of (below p) ++ l) one)
      ∙ map-append (initial_at n) (flat_map ranks_of (below p)) (ranks_of p)
      ∙ ap₂ (λ a b. a ++ b) (places_counted p (omega arith)) (ranks_counted p (omega arith))
      ∙ sym (take_on initial (start_of n p) c (omega (arith, start_low n (suc p))))
      ∙ ap (λ k. take k initial) (sym s)

  -- of all
  pub initial_counted : take (flat_place_count n) initial ≡ (unfolded n).initial
  unfolding unfolded flat_places
  initial_counted =
      ap (λ k. take k initial) (ap (λ l. sum (map (colours_of n) l)) (sym (take-length n.places)))
      ∙ sym (places_counted (length n.places) (omega arith))
