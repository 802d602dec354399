-- The arcs over all flat places are, place by place, the arcs over each place's ranks. Assumes nothing.
use Rattle.std.specs.Prelude.{◌+◌, ◌∷◌, ◌++◌, if◌then◌else◌}
use mathlib.Core.Path.{◌≡◌, refl, sym, ap, ap₂, subst, ◌∙◌}
use Prim.Native.Nat.{◌≤◌, ◌<◌}
use native.Mathlib.Omega.{arith}
use native.Mathlib.Numerals.{add-one}
use lib.ListN.{length-append, length-map}
use Rattle.reading.specs.Basics.{ℕ, zero, suc, Bool, true, false, List, [], map, flat_map, none, length, get_elem?, ltb, given, keep, numbers_from, below}
use Rattle.reading.proofs.Lists.{map_same, map_from, length_from, flat_more}
use Rattle.firing.specs.declared.Arc.{Arc}
use Rattle.firing.specs.Arcs.{arcs_of}
use Rattle.net.specs.Net.{Transition, Net, colours_of, place_at, flat_place_count, arc_on}
use Rattle.sums.specs.internal.Loaded.{ranks_from, rank_arcs}
use Rattle.multiset.proofs.Ranks.{ranks_none, ranks_few}
use Rattle.bindings.specs.Effect.{FlatPlace, flat_places, arc_weight}
use Rattle.prepared.specs.internal.Drawing.{start_of}
use Rattle.prepared.proofs.Starts.{start_next}
use Rattle.rows.specs.internal.Effects.{place_arcs, kind_arcs}
use Rattle.rows.proofs.FlatPlaces.{flat_places_lem}

-- ---- flat places in turn
module _ (w : FlatPlace → ℕ) where
  -- the arcs at a list of flat places, numbered from a number on
  abbrev walk : ℕ → List FlatPlace → List Arc
  walk a [] = []
  walk a (f ∷ l) = if ltb 0 (w f) then record { place = a; weight = w f } ∷ walk (a + 1) l else walk (a + 1) l

  walk_append : (a : ℕ) (l m : List FlatPlace) → walk a (l ++ m) ≡ walk a l ++ walk (a + length l) m
  walk_append a [] m = let e : a + 0 ≡ a = omega arith in rw e
  walk_append a (f ∷ l) m =
      let e : a + suc (length l) ≡ a + 1 + length l = omega arith in
      rw (e, walk_append (a + 1) l m) (go (ltb 0 (w f)) (walk (a + 1) l) (walk (a + 1 + length l) m))
    where
      go : (t : Bool) (x y : List Arc) → (if t then record { place = a; weight = w f } ∷ (x ++ y) else x ++ y) ≡ (if t then record { place = a; weight = w f } ∷ x else x) ++ y
      go true x y = refl
      go false x y = refl

  -- one place's ranks
  walk_ranks : (p start from n a : ℕ) → a ≡ start + from
      → walk a (map (λ r. record { place = p; rank = r }) (numbers_from from n)) ≡ ranks_from start (λ r. w (record { place = p; rank = r })) from n
  unfolding keep numbers_from
  walk_ranks p start from zero a e = refl
  walk_ranks p start from (suc n) a e = rw (e, walk_ranks p start (from + 1) n (start + from + 1) (omega arith))

  -- the numbers of a list with what stands there
  walk_at : (a : ℕ) (l : List FlatPlace)
      → keep (λ arc. ltb 0 arc.weight) (map (λ i. record { place = a + i; weight = given (get_elem? l i) 0 w }) (below (length l))) ≡ walk a l
  unfolding keep numbers_from
  walk_at a [] = refl
  walk_at a (f ∷ l) =
      let e : a + 0 ≡ a = omega arith in
      let q = map_from {A = Arc} (λ i. record { place = a + i; weight = given (get_elem? (f ∷ l) i) 0 w }) 0 (length l)
      ∙ map_same {B = Arc} (λ i. record { place = a + (i + 1); weight = given (get_elem? (f ∷ l) (i + 1)) 0 w }) (λ i. record { place = a + 1 + i; weight = given (get_elem? l i) 0 w })
      (below (length l)) (λ i m. let z : a + suc i ≡ a + 1 + i = omega arith in rw (add-one i, z)) in
      rw (e, q, walk_at (a + 1) l)

  -- places in turn, where each begins where the one before it ends
  walk_places : (start count : ℕ → ℕ) (p k a : ℕ) → a ≡ start p → ((q : ℕ) → p ≤ q → q < p + k → start (q + 1) ≡ start q + count q)
      → walk a (flat_map (λ q. map (λ r. record { place = q; rank = r }) (below (count q))) (numbers_from p k))
      ≡ flat_map (λ q. rank_arcs (start q) (count q) (λ r. w (record { place = q; rank = r }))) (numbers_from p k)
  unfolding numbers_from flat_map
  walk_places start count p zero a e h = refl
  walk_places start count p (suc k) a e h =
      walk_append a ranks (flat_map (λ q. map (λ r. record { place = q; rank = r }) (below (count q))) (numbers_from (p + 1) k))
      ∙ ap₂ ◌++◌ (walk_ranks p (start p) 0 (count p) a (omega arith)) (walk_places start count (p + 1) k (a + length ranks) (omega (arith, many, h p (omega arith) (omega arith))) (λ q x y. h q (omega arith) (omega arith)))
    where
      ranks : List FlatPlace
      ranks = map (λ r. record { place = p; rank = r }) (below (count p))

      many : length ranks ≡ count p
      many = length-map {B = FlatPlace} (below (count p)) (λ r. record { place = p; rank = r }) ∙ length_from 0 (count p)

-- ---- all places of a kind
module _ (n : Net) (t : Transition) (env : ℕ → ℕ) (kind : ℕ) where
  -- the arcs over all flat places are the arcs over each place's ranks, place by place
  pub split : arcs_of (flat_place_count n) (λ p. given (get_elem? (flat_places n) p) 0 (arc_weight n t env kind)) ≡ kind_arcs n t env kind (length n.places)
  unfolding flat_places
  split =
      ap (λ k. arcs_of k from) (sym (flat_places_lem n))
      ∙ ap (keep (λ a. ltb 0 a.weight)) (map_same {B = Arc} (λ p. record { place = p; weight = from p }) (λ p. record { place = 0 + p; weight = from p }) (below (length (flat_places n))) (λ p m. let e : p ≡ 0 + p = omega arith in ap (λ i. record { place = i; weight = from p }) e))
      ∙ walk_at (arc_weight n t env kind) 0 (flat_places n)
      ∙ walk_places (arc_weight n t env kind) (start_of n) (λ p. colours_of n (place_at n p)) 0 (length n.places) 0 refl (λ q x y. start_next n q (omega arith))
    where
      from : ℕ → ℕ
      from p = given (get_elem? (flat_places n) p) 0 (arc_weight n t env kind)

  -- one more place
  pub kind_more : (p : ℕ) → kind_arcs n t env kind (p + 1) ≡ kind_arcs n t env kind p ++ place_arcs n t env kind p
  kind_more p = rw (add-one p) (flat_more (place_arcs n t env kind) 0 p ∙ (let e : 0 + p ≡ p = omega arith in ap (λ q. kind_arcs n t env kind p ++ place_arcs n t env kind q) e))

  -- at most an arc a flat place
  pub kind_few : (p : ℕ) → p ≤ length n.places → length (kind_arcs n t env kind p) ≤ start_of n p
  unfolding flat_map numbers_from
  kind_few zero h = omega arith
  kind_few (suc p) h =
      subst (λ k. length (kind_arcs n t env kind k) ≤ start_of n k) (add-one p) (omega (
        arith,
        ap length (kind_more p),
        length-append (kind_arcs n t env kind p) (place_arcs n t env kind p),
        kind_few p (omega arith),
        ranks_few (start_of n p) (λ r. arc_weight n t env kind (record { place = p; rank = r })) 0 (colours_of n (place_at n p)),
        start_next n p (omega arith),
      ))

  -- a place without an arc of the kind
  pub place_none : (p : ℕ) → arc_on t.arcs kind p ≡ none → place_arcs n t env kind p ≡ []
  place_none p e = ranks_none (start_of n p) (λ r. arc_weight n t env kind (record { place = p; rank = r })) 0 (colours_of n (place_at n p)) (λ r. rw e)
