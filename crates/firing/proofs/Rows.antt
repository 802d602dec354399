-- Laws of rising arcs, and of arcs in a lent list. Assumes nothing.
use Rattle.std.specs.Prelude.{◌+◌, ◌-◌, ◌<◌, ◌∷◌, ◌++◌, set}
use Rattle.std.proofs.lemmas.List.{drop-drop, drop-take, take_all, take-set-le}
use Rattle.std.proofs.Math.Seq.{take-add, drop-cons}
use Rattle.std.proofs.Common.{add-one, length-take, length-drop, length-set, get_or-take, get_or-drop, get_or-set_same}
use mathlib.Core.Path.{◌≡◌, refl, sym, ap, ap₂, ◌∙◌}
use native.Mathlib.Omega.{arith}
use native.Mathlib.Decide.{dec_lt}
use Prim.Native.Nat.{◌≤◌}
use borrow.Author.Tests.{eq-eqb, ne_eqb, eqb-true, eqb-false}
use Rattle.reading.specs.Basics.{ℕ, suc, Bool, true, false, List, [], length, eqb, find, take, drop, get_or, with}
use Rattle.firing.specs.Arcs.{Arc, Rising, none, more, weight_in}
use Rattle.firing.specs.internal.RowLists.{arcs_in}

-- ---- the weight at a place
pub weight_hit : (a : Arc) (l : List Arc) (p : ℕ) → a.place ≡ p → weight_in (a ∷ l) p ≡ a.weight
unfolding weight_in find
weight_hit a l p e = simp (eq-eqb a.place p e)

pub weight_skip : (a : Arc) (l : List Arc) (p : ℕ) → (a.place ≡ p → ⊥) → weight_in (a ∷ l) p ≡ weight_in l p
unfolding weight_in find
weight_skip a l p n = simp (ne_eqb a.place p n)

-- none below the place from which the arcs rise
pub weight-below : {n from : ℕ} {l : List Arc} (p : ℕ) → Rising n from l → p < from → weight_in l p ≡ 0
unfolding weight_in find
weight-below p none h = refl
weight-below p (more {a = a} {l = l} f i w r) h = weight_skip a l p (λ e. omega arith) ∙ weight-below p r (omega arith)

-- ---- arcs of a list
pub data In (a : Arc) : List Arc → Type 0 where
  here : {l : List Arc} → In a (a ∷ l)
  there : {b : Arc} {l : List Arc} → In a l → In a (b ∷ l)

-- an arc lies from the first place on and below n, and its weight is the weight at its place
pub in_from : {n : ℕ} {a : Arc} {from : ℕ} {l : List Arc} → In a l → Rising n from l → from ≤ a.place
in_from here (more f i w r) = f
in_from {n = n} {a = a} {from = from} (there {b = b} {l = l} m) (more f i w r) = let h = in_from {from = b.place + 1} m r in omega arith

pub in_inside : {n : ℕ} {a : Arc} {from : ℕ} {l : List Arc} → In a l → Rising n from l → a.place < n
in_inside here (more f i w r) = i
in_inside {n = n} {a = a} {from = from} (there {b = b} {l = l} m) (more f i w r) = in_inside {from = b.place + 1} m r

pub in_weight : {n : ℕ} {a : Arc} {from : ℕ} {l : List Arc} → In a l → Rising n from l → weight_in l a.place ≡ a.weight
in_weight {a = a} (here {l = l}) r = weight_hit a l a.place refl
in_weight {n = n} {a = a} {from = from} (there {b = b} {l = l} m) (more f i w r) = let h = in_from m r in weight_skip b l a.place (λ e. omega arith) ∙ in_weight {from = b.place + 1} m r

-- where a weight is above 0 an arc stands
pub weight_in_lem : (l : List Arc) (p : ℕ) → 0 < weight_in l p → (a : Arc) × In a l × (a.place ≡ p) × (a.weight ≡ weight_in l p)
unfolding weight_in find
weight_in_lem [] p h = absurd (omega arith)
weight_in_lem (b ∷ l) p h = go (eqb b.place p) refl (weight_in_lem l p)
  where
    go : (t : Bool) → eqb b.place p ≡ t → (0 < weight_in l p → (a : Arc) × In a l × (a.place ≡ p) × (a.weight ≡ weight_in l p)) → (a : Arc) × In a (b ∷ l) × (a.place ≡ p) × (a.weight ≡ weight_in (b ∷ l) p)
    go true e later = let q = eqb-true _ _ e in (b, here, q, sym (weight_hit b l p q))
    go false e later =
        let skip = weight_skip b l p (eqb-false _ _ e) in
        let r = later (rw skip at h) in
        (r.0, there r.1, r.2, r.3 ∙ sym skip)

-- ---- arcs in a lent list
module _ (arcs : List Arc) where
  -- from the first on, and all
  pub arcs_first : (b : ℕ) → arcs_in arcs 0 b ≡ take b arcs
  unfolding arcs_in
  arcs_first b = let e : b - 0 ≡ b = omega arith in ap (λ n. take n arcs) e

  pub arcs_whole : arcs_in arcs 0 (length arcs) ≡ arcs
  unfolding arcs_in
  arcs_whole = take_all (length arcs - 0) arcs (omega arith)

  -- how many there are
  pub length_arcs : (a b : ℕ) → b ≤ length arcs → length (arcs_in arcs a b) ≡ b - a
  unfolding arcs_in
  length_arcs a b h = simp (length-take, length-drop) (omega arith)

  -- the arc number i of them
  pub at_arcs : (a b i : ℕ) (other : Arc) → i < b - a → get_or (arcs_in arcs a b) i other ≡ get_or arcs (a + i) other
  unfolding arcs_in
  at_arcs a b i other h = get_or-take (b - a) (drop a arcs) i other h ∙ get_or-drop a arcs i other

  -- none, one, and one more in front or at the end
  pub arcs_none : (a b : ℕ) → b ≤ a → arcs_in arcs a b ≡ []
  unfolding arcs_in
  arcs_none a b h = let e : b - a ≡ 0 = omega arith in rw e

  pub arcs_more : (a b : ℕ) (other : Arc) → a < b → b ≤ length arcs → arcs_in arcs a b ≡ get_or arcs a other ∷ arcs_in arcs (a + 1) b
  unfolding arcs_in
  arcs_more a b other h k =
      let lt : a < length arcs = omega arith in
      let e : b - a ≡ suc (b - (a + 1)) = omega arith in
      rw (drop-cons arcs a other lt, e, add-one)

  -- those of the front alone
  in_front : (a b : ℕ) → a ≤ b → arcs_in arcs a b ≡ drop a (take b arcs)
  unfolding arcs_in
  in_front a b h = let f : a + (b - a) ≡ b = omega arith in sym (drop-take a (b - a) arcs) ∙ ap (λ n. drop a (take n arcs)) f

  -- split at a number
  pub arcs_join : (a b c : ℕ) → a ≤ b → b ≤ c → arcs_in arcs a c ≡ arcs_in arcs a b ++ arcs_in arcs b c
  unfolding arcs_in
  arcs_join a b c h k =
      let e : c - a ≡ (b - a) + (c - b) = omega arith in
      let f : a + (b - a) ≡ b = omega arith in
      rw (e, take-add (b - a) (c - b) (drop a arcs), drop-drop (b - a) a arcs, f)

  pub arcs_next : (a b : ℕ) (other : Arc) → a ≤ b → b < length arcs → arcs_in arcs a (b + 1) ≡ with (arcs_in arcs a b) (get_or arcs b other)
  arcs_next a b other h k =
      arcs_join a b (b + 1) h (omega arith)
      ∙ ap (λ (l : List Arc). arcs_in arcs a b ++ l) (arcs_more b (b + 1) other (omega arith) (omega arith) ∙ ap (λ (l : List Arc). get_or arcs b other ∷ l) (arcs_none (b + 1) (b + 1) (omega arith)))

-- a list with the same front has the same arcs there
pub arcs_front : (arcs others : List Arc) (a b : ℕ) → take b arcs ≡ take b others → arcs_in arcs a b ≡ arcs_in others a b
arcs_front arcs others a b e =
    elim (dec_lt b a) [
      | yes h ↦ arcs_none arcs a b (omega arith) ∙ sym (arcs_none others a b (omega arith))
      | no h ↦ in_front arcs a b (omega arith) ∙ ap (λ (l : List Arc). drop a l) e ∙ sym (in_front others a b (omega arith))
    ]

-- an arc is stored behind them, and as one more
module _ (arcs : List Arc) (i : ℕ) (x : Arc) where
  pub arcs_kept : (a b : ℕ) → b ≤ i → arcs_in (set arcs i x) a b ≡ arcs_in arcs a b
  arcs_kept a b h = arcs_front (set arcs i x) arcs a b (take-set-le b arcs i x h)

  pub arcs_with : (a : ℕ) → a ≤ i → i < length arcs → arcs_in (set arcs i x) a (i + 1) ≡ with (arcs_in arcs a i) x
  arcs_with a h k =
      let lt : i < length (set arcs i x) = omega (arith, length-set arcs i x) in
      arcs_next (set arcs i x) a i x h lt ∙ ap₂ (λ (l : List Arc) (y : Arc). with l y) (arcs_kept a i (omega arith)) (get_or-set_same arcs i x x k)
