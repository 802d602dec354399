-- A row's arcs rise, so the first arc of which a test holds stands at the lowest flat place of which it holds. Assumes nothing.
use Rattle.std.specs.Prelude.{◌+◌, ◌||◌, ◌∷◌, if◌then◌else◌}
use mathlib.Core.Path.{◌≡◌, refl, sym, ap, ◌∙◌}
use mathlib.Core.Logic.{⊎_elim}
use Prim.Native.Nat.{◌≤◌, ◌<◌}
use native.Mathlib.Omega.{arith}
use native.Mathlib.Nat.{eq-or-lt_of_le}
use Rattle.reading.specs.Basics.{ℕ, zero, suc, Bool, true, false, List, [], none, some, find, any, numbers_from, below}
use Rattle.firing.specs.Arcs.{Arc, Rising, more}
use Rattle.firing.proofs.Rows.{In, here, there, in_from, in_inside, weight_in_lem}
use Rattle.firing.proofs.Rule.{Shown, by_arcs}

-- ---- the first of some numbers
-- none where a test holds of none
find_none : {A : Type 0} (q : A → Bool) (l : List A) → any q l ≡ false → find q l ≡ none
unfolding any find
find_none q [] e = refl
find_none {A} q (a ∷ l) e = go (q a) e (find_none q l)
  where
    go : (t : Bool) → (t || any q l) ≡ false → (any q l ≡ false → find q l ≡ none) → (if t then some a else find q l) ≡ none
    go true h later = let z : ◌≡◌ {A = ℕ} 0 1 = cc in absurd (omega arith)
    go false h later = later h

-- p where it holds of p, and of none below
find_lowest : (q : ℕ → Bool) (a n p : ℕ) → a ≤ p → p < a + n → q p ≡ true → ((j : ℕ) → j < p → q j ≡ false) → find q (numbers_from a n) ≡ some p
unfolding find numbers_from
find_lowest q a zero p l h e f = absurd (omega arith)
find_lowest q a (suc n) p l h e f = ⊎_elim (λ z. hit z) (λ k. miss k (find_lowest q (a + 1) n p (omega arith) (omega arith) e f)) (eq-or-lt_of_le l)
  where
    hit : a ≡ p → (if q a then some a else find q (numbers_from (a + 1) n)) ≡ some p
    hit z = rw (ap q z ∙ e) (ap some z)

    miss : a < p → find q (numbers_from (a + 1) n) ≡ some p → (if q a then some a else find q (numbers_from (a + 1) n)) ≡ some p
    miss k later = rw (f a k) later

-- ---- the first of some arcs
-- of rising arcs, no other of which the test holds stands lower
first_lowest : {n : ℕ} (t : Arc → Bool) {a b : Arc} {from : ℕ} {l : List Arc} → In b l → Rising n from l → find t l ≡ some a → t b ≡ true → a.place ≤ b.place
unfolding find
first_lowest t {a} {b} (here {l = l}) r e h = let e' : some b ≡ some a = rw h at e in let z : a ≡ b = cc in rw z (omega arith)
first_lowest {n = n} t {a = a} {b = b} {from = from} (there {b = x} {l = l} m) (more f i w r) e h = go (t x) e (λ q. first_lowest t {from = x.place + 1} m r q h)
  where
    go : (s : Bool) → (if s then some x else find t l) ≡ some a → (find t l ≡ some a → a.place ≤ b.place) → a.place ≤ b.place
    go true q later = let z : x ≡ a = cc in rw (← z) (let g = in_from m r in omega arith)
    go false q later = later q

-- it is one of them, and the test holds of it
found_in : (t : Arc → Bool) {a : Arc} (l : List Arc) → find t l ≡ some a → In a l × (t a ≡ true)
unfolding find
found_in t [] e = let z : ◌≡◌ {A = ℕ} 0 1 = cc in absurd (omega arith)
found_in t {a} (x ∷ l) e = go (t x) refl e (found_in t l)
  where
    go : (s : Bool) → t x ≡ s → (if s then some x else find t l) ≡ some a → (find t l ≡ some a → In a l × (t a ≡ true)) → In a (x ∷ l) × (t a ≡ true)
    go true k q later = let z : x ≡ a = cc in rw (← z) (here, k)
    go false k q later = let r = later q in (there r.0, r.1)

-- ---- a test of places that shows at arcs
module _ {n : ℕ} {q : ℕ → Bool} {t : Arc → Bool} {arcs : List Arc} (shown : Shown n q t arcs) where
  -- the first arc of which the test holds stands at the lowest place of which it holds
  pub lowest_place : {a : Arc} → find t arcs ≡ some a → find q (below n) ≡ some a.place
  lowest_place {a} found = find_lowest q 0 n a.place (omega arith) (omega (arith, inside)) (shown.same a is_in.0 ∙ is_in.1) lower
    where
      is_in : In a arcs × (t a ≡ true)
      is_in = found_in t arcs found

      inside : a.place < n
      inside = in_inside is_in.0 shown.rising

      lower : (p : ℕ) → p < a.place → q p ≡ false
      lower p l = go (q p) refl
        where
          go : (s : Bool) → q p ≡ s → q p ≡ false
          go true e =
              let y = weight_in_lem arcs p (shown.only p (omega (arith, inside)) e) in
              let least = first_lowest t y.1 shown.rising found (sym (shown.same y.0 y.1) ∙ ap q y.2 ∙ e) in
              absurd (omega (arith, least, y.2))
          go false e = e

  -- there is none where it holds of no arc
  pub no_place : any t arcs ≡ false → find q (below n) ≡ none
  no_place e = find_none q (below n) (by_arcs shown ∙ e)
