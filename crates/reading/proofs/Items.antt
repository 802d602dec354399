-- The items of a list, so many bytes each. Assumes nothing.
use Rattle.std.specs.Prelude.{◌+◌, ◌*◌, ◌/◌, ◌%◌, ◌∷◌, ◌++◌}
use mathlib.Core.Path.{◌≡◌, refl, sym, ap, ap₂, ◌∙◌}
use Prim.Native.Nat.{◌<◌}
use native.Mathlib.Omega.{arith}
use native.Mathlib.Nat.{add-div_left, zero-div, zero-mul, suc-mul}
use native.Mathlib.Numerals.{add-one}
use lib.ListN.{length-append, take-append-drop, length-drop}
use lib.Seq.{take_at, drop-append-add, length-take-le}
use Rattle.reading.specs.Basics.{ℕ, zero, suc, List, [], map, flat_map, length, take, drop, numbers_from, below, items}
use Rattle.reading.proofs.Lists.{All, end, also, map_from, map_same}

module _ (w : ℕ) (some : 0 < w) where
  -- one item in front
  pub items_more : (x s : List ℕ) → length x ≡ w → items w (x ++ s) ≡ x ∷ items w s
  unfolding numbers_from
  items_more x s e = rw count (ap₂ ◌∷◌ first rest)
    where
      count : length (x ++ s) / w ≡ suc (length s / w)
      count = rw (length-append x s, e, add-div_left (length s) some) (add-one (length s / w))

      first : take w (drop (0 * w) (x ++ s)) ≡ x
      first = rw (zero-mul w) (take_at x s w e)

      further : (i : ℕ) → drop ((i + 1) * w) (x ++ s) ≡ drop (i * w) s
      further i =
          let p : (i + 1) * w ≡ length x + i * w = rw (add-one i, suc-mul i w, e) (omega arith) in
          rw p (drop-append-add x s (i * w))

      rest : map (λ i. take w (drop (i * w) (x ++ s))) (numbers_from 1 (length s / w)) ≡ items w s
      rest = map_from (λ i. take w (drop (i * w) (x ++ s))) 0 (length s / w)
          ∙ map_same (λ i. take w (drop ((i + 1) * w) (x ++ s))) (λ i. take w (drop (i * w) s)) (below (length s / w)) (λ i m. ap (take w) (further i))

  -- no bytes, no items
  items_none : items w [] ≡ []
  unfolding numbers_from
  items_none = rw (zero-div w)

  -- lists of that length, joined, are the items
  pub items-joined : {A : Type 0} (f : A → List ℕ) {l : List A} → All (λ a. length (f a) ≡ w) l → items w (flat_map f l) ≡ map f l
  unfolding flat_map
  items-joined f end = items_none
  items-joined f (also {a = a} {l = l} e p) = items_more (f a) (flat_map f l) e ∙ ap (λ m. f a ∷ m) (items-joined f p)

  -- a whole number of items: each of that length, and joined they are the list
  pub items-whole : (k : ℕ) (s : List ℕ) → length s ≡ k * w → All (λ x. length x ≡ w) (items w s) × (flat_map (λ x. x) (items w s) ≡ s)
  unfolding flat_map
  items-whole zero [] e = rw items_none (end, refl)
  items-whole zero (a ∷ s) e = let z : 0 * w ≡ 0 = zero-mul w in absurd (omega arith)
  items-whole (suc k) s e = go (items-whole k (drop w s) (length-drop w s ∙ omega (arith, suc-mul k w)))
    where
      front : length (take w s) ≡ w
      front = length-take-le w s (omega (arith, suc-mul k w))

      step : items w s ≡ take w s ∷ items w (drop w s)
      step = ap (items w) (sym (take-append-drop w s)) ∙ items_more (take w s) (drop w s) front

      go : All (λ x. length x ≡ w) (items w (drop w s)) × (flat_map (λ x. x) (items w (drop w s)) ≡ drop w s)
          → All (λ x. length x ≡ w) (items w s) × (flat_map (λ x. x) (items w s) ≡ s)
      go ih = (rw step (also front ih.0), rw step (ap (λ l. take w s ++ l) ih.1 ∙ take-append-drop w s))

-- orders of 6 bytes
pub of_six : (s : List ℕ) → length s % 6 ≡ 0 → All (λ x. length x ≡ 6) (items 6 s) × (flat_map (λ x. x) (items 6 s) ≡ s)
of_six s e = items-whole 6 (omega arith) (length s / 6) s (omega arith)

-- lists of 6 bytes, joined, are a whole number of sixes
pub joined_sixes : {A : Type 0} (f : A → List ℕ) {l : List A} → All (λ a. length (f a) ≡ 6) l → length (flat_map f l) % 6 ≡ 0
unfolding flat_map
joined_sixes f end = refl
joined_sixes f (also {a = a} {l = l} e p) = let h = joined_sixes f p in rw (length-append (f a) (flat_map f l), e) (omega arith)
