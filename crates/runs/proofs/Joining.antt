-- Two multisets joined rank by rank, and a multiset times a factor. Assumes nothing.
use Rattle.std.specs.Prelude.{◌+◌, ◌-◌, ◌*◌, ◌∷◌, ◌++◌, if◌then◌else◌}
use mathlib.Core.Path.{◌≡◌, refl, sym, ap, ap₂, subst, ◌∙◌}
use Prim.Native.Nat.{◌≤◌, ◌<◌}
use native.Mathlib.Omega.{arith}
use borrow.Author.Tests.{le-leb, lt-leb, ltb-true, ltb-false, lt-ltb, le-ltb, eqb-true, eqb-false, eq-eqb, ne_eqb}
use Rattle.std.proofs.lemmas.List.{append-nil, take_more, take_all, nil_from_length}
use lib.ListN.{length-map}
use Rattle.reading.specs.Basics.{ℕ, Bool, true, false, List, [], map, length, get_or, take, ltb, eqb}
use Rattle.firing.specs.declared.Arc.{Arc}
use Rattle.std.proofs.lemmas.Bool.{cases_lt}
use Rattle.std.proofs.Common.{inl, inr}
use Rattle.arc_expressions.specs.declared.operator.Operator.{Operator}
use Rattle.arc_expressions.specs.declared.operator.Operator.TheVariants.{Plus, Minus}
use Rattle.runs.specs.internal.Terms.{limit, term, count_in, Terms, none, more, join_one, joined, join_by, times_all}

-- ---- terms by rising rank
-- a rank below the first term has the rest
pub count_below : {count from : ℕ} {l : List Arc} → Terms count from l → (rest rank : ℕ) → rank < from → count_in l rest rank ≡ rest
unfolding count_in
count_below none rest rank h = refl
count_below (more {a = a} {l = l} x y w t) rest rank h = rw (ne_eqb a.place rank (λ e. omega arith)) (count_below t rest rank (omega arith))

-- the first term's rank has its count, another rank that of the terms after it
pub count_here : (a : Arc) (l : List Arc) (rest rank : ℕ) → a.place ≡ rank → count_in (a ∷ l) rest rank ≡ a.weight
unfolding count_in
count_here a l rest rank e = rw (eq-eqb a.place rank e)

pub count_there : (a : Arc) (l : List Arc) (rest rank : ℕ) → (a.place ≡ rank → ⊥) → count_in (a ∷ l) rest rank ≡ count_in l rest rank
unfolding count_in
count_there a l rest rank h = rw (ne_eqb a.place rank h)

-- terms from a rank on are terms from a lower one on
pub terms_from : {count from : ℕ} {l : List Arc} → Terms count from l → (low : ℕ) → low ≤ from → Terms count low l
terms_from none low h = none
terms_from (more {a = a} x y w t) low h = more {from = low} {a = a} (omega arith) y w t

-- the first term's rank, and the terms after it; its count
pub terms_split : {count from : ℕ} {a : Arc} {l : List Arc} → Terms count from (a ∷ l) → (from ≤ a.place) × (a.place < count) × Terms count (a.place + 1) l
terms_split (more x y w t) = (x, y, t)

pub terms_weight : {count from : ℕ} {a : Arc} {l : List Arc} → Terms count from (a ∷ l) → a.weight ≤ 65535
terms_weight (more x y w t) = w

-- from, the last term's rank is no less, and where that is below a number, all are
terms_last : {count from : ℕ} (l : List Arc) (z : Arc) → Terms count from (l ++ (z ∷ [])) → from ≤ z.place
terms_last [] z (more x y w t) = x
terms_last {from = from} (a ∷ l) z (more x y w t) = let h = terms_last {from = a.place + 1} l z t in omega arith

pub terms-below : {count from : ℕ} (l : List Arc) (z : Arc) (below : ℕ) → Terms count from (l ++ (z ∷ [])) → z.place < below → Terms below from (l ++ (z ∷ []))
terms-below [] z below (more x y w t) h = more {a = z} x h w none
terms-below {from = from} (a ∷ l) z below (more x y w t) h = let k = terms_last l z t in more {a = a} x (omega arith) w (terms-below {from = a.place + 1} l z below t h)

-- those before the last lie below its rank; a front of them
pub terms-before : {count from : ℕ} (l : List Arc) (z : Arc) → Terms count from (l ++ (z ∷ [])) → Terms z.place from l
terms-before [] z t = none
terms-before {from = from} (a ∷ l) z (more x y w t) = let h = terms_last l z t in more {a = a} x (omega arith) w (terms-before {from = a.place + 1} l z t)

pub terms_front : {count from : ℕ} (l m : List Arc) → Terms count from (l ++ m) → Terms count from l
terms_front [] m t = none
terms_front {from = from} (a ∷ l) m (more x y w t) = more {a = a} x y w (terms_front {from = a.place + 1} l m t)

-- where the last rank is below a number, all are
pub terms_under : {count from : ℕ} (l : List Arc) (below : ℕ) → Terms count from l → (0 < length l → (get_or l (length l - 1) (term 0 0)).place < below) → Terms below from l
terms_under {count} {from} l below t h =
    elim (cases_lt 0 (length l)) [
      | inl p ↦
          let e : length l - 1 + 1 ≡ length l = omega arith in
          let z : Arc = get_or l (length l - 1) (term 0 0) in
          let split : l ≡ take (length l - 1) l ++ (z ∷ []) = sym (take_all (length l - 1 + 1) l (omega arith)) ∙ take_more l (length l - 1) (term 0 0) (omega arith) in
          subst (Terms below from) (sym split) (terms-below (take (length l - 1) l) z below (subst (Terms count from) split t) (h p))
      | inr p ↦ let e : l ≡ [] = nil_from_length l (omega arith) in rw e none
    ]

-- those behind some
pub terms_behind : {count from : ℕ} (l m : List Arc) → Terms count from (l ++ m) → Terms count from m
terms_behind [] m t = t
terms_behind {from = from} (a ∷ l) m (more x y w t) = terms_from (terms_behind {from = a.place + 1} l m t) from (omega arith)

-- ---- joined counts are u16 again
pub limit_fits : (w : ℕ) → limit w ≤ 65535
limit_fits w = elim (cases_lt 65535 w) [ inl h ↦ rw (lt-leb w 65535 h) (omega arith) | inr h ↦ rw (le-leb w 65535 h) h ]

pub join_fits : (op : Operator) (a b : ℕ) → a ≤ 65535 → join_by op a b ≤ 65535
join_fits Plus a b h = limit_fits (a + b)
join_fits Minus a b h = omega arith

-- ---- every count through a function
module _ (g : ℕ → ℕ) where
  abbrev each : List Arc → List Arc
  each l = map (λ a. term a.place (g a.weight)) l

  each_counts : (l : List Arc) (rest rank : ℕ) → count_in (each l) (g rest) rank ≡ g (count_in l rest rank)
  unfolding count_in
  each_counts [] rest rank = refl
  each_counts (a ∷ l) rest rank = by (eqb a.place rank) (each_counts l rest rank)
    where
      by : (t : Bool) → count_in (each l) (g rest) rank ≡ g (count_in l rest rank) → (if t then g a.weight else count_in (each l) (g rest) rank) ≡ g (if t then a.weight else count_in l rest rank)
      by true e = refl
      by false e = e

  each_rises : ((w : ℕ) → g w ≤ 65535) → {count from : ℕ} {l : List Arc} → Terms count from l → Terms count from (each l)
  each_rises fits none = none
  each_rises fits (more {a = a} x y w t) = more x y (fits a.weight) (each_rises fits t)

-- ---- a multiset times a factor
pub times_counts : (factor : ℕ) (l : List Arc) (rest rank : ℕ) → count_in (times_all factor l) (limit (factor * rest)) rank ≡ limit (factor * count_in l rest rank)
times_counts factor l rest rank = each_counts (λ c. limit (factor * c)) l rest rank

pub times_rises : (factor : ℕ) {count from : ℕ} {l : List Arc} → Terms count from l → Terms count from (times_all factor l)
times_rises factor t = each_rises (λ c. limit (factor * c)) (λ w. limit_fits (factor * w)) t

pub times_few : (factor : ℕ) (l : List Arc) → length (times_all factor l) ≡ length l
times_few factor l = length-map l (λ a. term a.place (limit (factor * a.weight)))

-- ---- two multisets joined
module _ (f : ℕ → ℕ → ℕ) (p q : ℕ) where
  -- the steps: no term of the second is left, its next one has a higher rank, a lower one, or the same
  pub joined_last : (a : Arc) (l : List Arc) → joined f p q (a ∷ l) [] ≡ term a.place (f a.weight q) ∷ joined f p q l []
  unfolding joined join_one
  joined_last a l = refl

  pub joined-first : (a : Arc) (l : List Arc) (b : Arc) (m : List Arc) → a.place < b.place
      → joined f p q (a ∷ l) (b ∷ m) ≡ term a.place (f a.weight q) ∷ joined f p q l (b ∷ m)
  unfolding joined join_one
  joined-first a l b m h = rw (lt-ltb a.place b.place h)

  pub joined_second : (a : Arc) (l : List Arc) (b : Arc) (m : List Arc) → b.place < a.place
      → joined f p q (a ∷ l) (b ∷ m) ≡ term b.place (f p b.weight) ∷ joined f p q (a ∷ l) m
  unfolding joined join_one
  joined_second a l b m h = rw (le-ltb a.place b.place (omega arith), lt-ltb b.place a.place h)

  pub joined_both : (a : Arc) (l : List Arc) (b : Arc) (m : List Arc) → a.place ≡ b.place
      → joined f p q (a ∷ l) (b ∷ m) ≡ term a.place (f a.weight b.weight) ∷ joined f p q l m
  unfolding joined join_one
  joined_both a l b m h = rw (le-ltb a.place b.place (omega arith), le-ltb b.place a.place (omega arith))

  -- what holds at the start and over each step holds of all joined terms
  module _ (P : List Arc → List Arc → List Arc → Type 0) (start : (m : List Arc) → P [] m (joined f p q [] m))
      (last : (a : Arc) (l r : List Arc) → P l [] r → P (a ∷ l) [] (term a.place (f a.weight q) ∷ r))
      (first : (a : Arc) (l : List Arc) (b : Arc) (m r : List Arc) → a.place < b.place → P l (b ∷ m) r → P (a ∷ l) (b ∷ m) (term a.place (f a.weight q) ∷ r))
      (second : (a : Arc) (l : List Arc) (b : Arc) (m r : List Arc) → b.place < a.place → P (a ∷ l) m r → P (a ∷ l) (b ∷ m) (term b.place (f p b.weight) ∷ r))
      (both : (a : Arc) (l : List Arc) (b : Arc) (m r : List Arc) → a.place ≡ b.place → P l m r → P (a ∷ l) (b ∷ m) (term a.place (f a.weight b.weight) ∷ r)) where
    one_by : (a : Arc) (l : List Arc) (go : List Arc → List Arc) → ((m : List Arc) → P l m (go m)) → (m : List Arc) → P (a ∷ l) m (join_one f p q a go m)
    unfolding join_one
    one_by a l go h [] = last a l (go []) (h [])
    one_by a l go h (b ∷ m) = above (ltb a.place b.place) refl (one_by a l go h m)
      where
        low : (t : Bool) → ltb b.place a.place ≡ t → b.place ≤ a.place → P (a ∷ l) m (join_one f p q a go m)
            → P (a ∷ l) (b ∷ m) (if t then term b.place (f p b.weight) ∷ join_one f p q a go m else term a.place (f a.weight b.weight) ∷ go m)
        low true e k r = second a l b m (join_one f p q a go m) (ltb-true b.place a.place e) r
        low false e k r = let n = ltb-false b.place a.place e in both a l b m (go m) (omega arith) (h m)

        above : (t : Bool) → ltb a.place b.place ≡ t → P (a ∷ l) m (join_one f p q a go m)
            → P (a ∷ l) (b ∷ m) (if t then term a.place (f a.weight q) ∷ go (b ∷ m)
            else if ltb b.place a.place then term b.place (f p b.weight) ∷ join_one f p q a go m
            else term a.place (f a.weight b.weight) ∷ go m)
        above true e r = first a l b m (go (b ∷ m)) (ltb-true a.place b.place e) (h (b ∷ m))
        above false e r = low (ltb b.place a.place) refl (ltb-false a.place b.place e) r

    joined_by : (l m : List Arc) → P l m (joined f p q l m)
    unfolding joined
    joined_by [] m = start m
    joined_by (a ∷ l) m = one_by a l (joined f p q l) (λ k. joined_by l k) m

  -- no more terms than both have
  pub joined_few : (l m : List Arc) → length (joined f p q l m) ≤ length l + length m
  unfolding joined
  joined_few = joined_by (λ l m r. length r ≤ length l + length m) (λ m. let e = length-map m (λ b. term b.place (f p b.weight)) in omega arith)
      (λ a l r h. omega arith) (λ a l b m r k h. omega arith) (λ a l b m r k h. omega arith) (λ a l b m r k h. omega arith)

  -- by rising rank, where joined counts are u16
  pub joined_rises : ((a b : ℕ) → a ≤ 65535 → f a b ≤ 65535) → p ≤ 65535 → {count from : ℕ} {l m : List Arc} → Terms count from l → Terms count from m → Terms count from (joined f p q l m)
  unfolding joined
  joined_rises fits small {count} {from} {l} {m} t u =
      joined_by (λ l m r. (from : ℕ) → Terms count from l → Terms count from m → Terms count from r) (λ m from t u. each_rises (f p) (λ w. fits p w small) u)
      (λ a l r h from t u. let (x, y, v) = terms_split t in more x y (fits a.weight q (terms_weight t)) (h (a.place + 1) v none))
      (λ a l b m r k h from t u. let (x, y, v) = terms_split t in let (x', y', w) = terms_split u in more x y (fits a.weight q (terms_weight t)) (h (a.place + 1) v (more {a = b} (omega arith) y' (terms_weight u) w)))
      (λ a l b m r k h from t u. let (x, y, v) = terms_split t in let (x', y', w) = terms_split u in more x' y' (fits p b.weight small) (h (b.place + 1) (more {a = a} (omega arith) y (terms_weight t) v) w))
      (λ a l b m r k h from t u. let (x, y, v) = terms_split t in let (x', y', w) = terms_split u in more x y (fits a.weight b.weight (terms_weight t)) (h (a.place + 1) v (terms_from w (a.place + 1) (omega arith))))
      l m from t u

  -- each rank has the counts of both, joined
  module _ (count rank : ℕ) where
    abbrev Same : List Arc → List Arc → List Arc → Type 0
    Same l m r = (from : ℕ) → Terms count from l → Terms count from m → count_in r (f p q) rank ≡ f (count_in l p rank) (count_in m q rank)

    by_rank : (r : ℕ) {C : Type 0} → (r ≡ rank → C) → ((r ≡ rank → ⊥) → C) → C
    by_rank r {C} is not = go (eqb r rank) refl
      where
        go : (t : Bool) → eqb r rank ≡ t → C
        go true e = is (eqb-true r rank e)
        go false e = not (eqb-false r rank e)

    same_last : (a : Arc) (l r : List Arc) → Same l [] r → Same (a ∷ l) [] (term a.place (f a.weight q) ∷ r)
    unfolding count_in
    same_last a l r h from t u =
        let (x, y, v) = terms_split t in
        by_rank a.place (λ e. rw (eq-eqb a.place rank e)) (λ n. rw (ne_eqb a.place rank n) (h (a.place + 1) v none))

    same_first : (a : Arc) (l : List Arc) (b : Arc) (m r : List Arc) → a.place < b.place → Same l (b ∷ m) r → Same (a ∷ l) (b ∷ m) (term a.place (f a.weight q) ∷ r)
    same_first a l b m r k h from t u =
        let (x, y, v) = terms_split t in
        let (x', y', w) = terms_split u in
        let s : Terms count (a.place + 1) (b ∷ m) = more {from = a.place + 1} {a = b} (omega arith) y' (terms_weight u) w in
        by_rank a.place
        (λ e. count_here (term a.place (f a.weight q)) r (f p q) rank e ∙ ap₂ f (sym (count_here a l p rank e)) (sym (count_below s q rank (omega arith))))
        (λ n. count_there (term a.place (f a.weight q)) r (f p q) rank n ∙ h (a.place + 1) v s ∙ ap (λ c. f c (count_in (b ∷ m) q rank)) (sym (count_there a l p rank n)))

    same_second : (a : Arc) (l : List Arc) (b : Arc) (m r : List Arc) → b.place < a.place → Same (a ∷ l) m r → Same (a ∷ l) (b ∷ m) (term b.place (f p b.weight) ∷ r)
    same_second a l b m r k h from t u =
        let (x, y, v) = terms_split t in
        let (x', y', w) = terms_split u in
        let s : Terms count (b.place + 1) (a ∷ l) = more {from = b.place + 1} {a = a} (omega arith) y (terms_weight t) v in
        by_rank b.place
        (λ e. count_here (term b.place (f p b.weight)) r (f p q) rank e ∙ ap₂ f (sym (count_below s p rank (omega arith))) (sym (count_here b m q rank e)))
        (λ n. count_there (term b.place (f p b.weight)) r (f p q) rank n ∙ h (b.place + 1) s w ∙ ap (f (count_in (a ∷ l) p rank)) (sym (count_there b m q rank n)))

    same_both : (a : Arc) (l : List Arc) (b : Arc) (m r : List Arc) → a.place ≡ b.place → Same l m r → Same (a ∷ l) (b ∷ m) (term a.place (f a.weight b.weight) ∷ r)
    same_both a l b m r k h from t u =
        let (x, y, v) = terms_split t in
        let (x', y', w) = terms_split u in
        by_rank a.place
        (λ e. count_here (term a.place (f a.weight b.weight)) r (f p q) rank e ∙ ap₂ f (sym (count_here a l p rank e)) (sym (count_here b m q rank (sym k ∙ e))))
        (λ n. count_there (term a.place (f a.weight b.weight)) r (f p q) rank n ∙ h (a.place + 1) v (terms_from w (a.place + 1) (omega arith))
        ∙ ap₂ f (sym (count_there a l p rank n)) (sym (count_there b m q rank (λ e. n (k ∙ e)))))

    same_start : (m : List Arc) → Same [] m (joined f p q [] m)
    unfolding joined count_in
    same_start m from t u = each_counts (f p) m q rank

  pub joined_counts : {count from : ℕ} {l m : List Arc} → Terms count from l → Terms count from m → (rank : ℕ) → count_in (joined f p q l m) (f p q) rank ≡ f (count_in l p rank) (count_in m q rank)
  joined_counts {count} {from} {l} {m} t u rank =
      joined_by (Same count rank) (same_start count rank) (same_last count rank) (same_first count rank) (same_second count rank) (same_both count rank) l m from t u

-- ---- a sum of which the first lies wholly below the second
-- nothing is added to a count
add_none : (a : Arc) (n : ℕ) → a.weight ≤ 65535 → n ≡ a.weight → term a.place (limit n) ≡ a
add_none a n h e = rw (e, le-leb a.weight 65535 h)

add_all : {count from : ℕ} {m : List Arc} → Terms count from m → joined (join_by Plus) 0 0 [] m ≡ m
unfolding joined
add_all none = refl
add_all (more {a = a} x y w t) = ap₂ ◌∷◌ (add_none a (0 + a.weight) w (omega arith)) (add_all t)

-- the terms of the first that lie wholly below the second stay; the others are joined with it
pub joined_pass : {count from middle : ℕ} (l k m : List Arc) → Terms middle from l → Terms count middle m → joined (join_by Plus) 0 0 (l ++ k) m ≡ l ++ joined (join_by Plus) 0 0 k m
joined_pass [] k m t u = refl
joined_pass {from = from} (a ∷ l) k [] (more x y w t) u = joined_last (join_by Plus) 0 0 a (l ++ k) ∙ ap₂ ◌∷◌ (add_none a (a.weight + 0) w (omega arith)) (joined_pass {from = a.place + 1} l k [] t u)
joined_pass {from = from} (a ∷ l) k (b ∷ m) (more x y w t) u =
    let (x', y', v) = terms_split u in
    joined-first (join_by Plus) 0 0 a (l ++ k) b m (omega arith) ∙ ap₂ ◌∷◌ (add_none a (a.weight + 0) w (omega arith)) (joined_pass {from = a.place + 1} l k (b ∷ m) t u)

pub joined_apart : {count from middle : ℕ} (l m : List Arc) → Terms middle from l → Terms count middle m → joined (join_by Plus) 0 0 l m ≡ l ++ m
joined_apart l m t u = ap (λ k. joined (join_by Plus) 0 0 k m) (sym (append-nil l)) ∙ joined_pass l [] m t u ∙ ap (λ k. l ++ k) (add_all u)

-- ---- one term added
-- a rank below the first term's
abbrev pub Under : ℕ → List Arc → Type 0
Under rank [] = Unit {0}
Under rank (a ∷ l) = rank < a.place

-- nothing added; one term added to terms of higher ranks, and to terms whose first has its rank
add_nothing : {count from : ℕ} {l : List Arc} → Terms count from l → joined (join_by Plus) 0 0 l [] ≡ l
unfolding joined
add_nothing none = refl
add_nothing (more {a = a} {l = l} x y w t) = joined_last (join_by Plus) 0 0 a l ∙ ap₂ ◌∷◌ (add_none a (a.weight + 0) w (omega arith)) (add_nothing t)

pub add_under : {count from : ℕ} (b : Arc) (l : List Arc) → b.weight ≤ 65535 → Terms count from l → Under b.place l → joined (join_by Plus) 0 0 l (b ∷ []) ≡ b ∷ l
unfolding joined
add_under b [] h t u = ap (λ a. a ∷ []) (add_none b (0 + b.weight) h (omega arith))
add_under b (a ∷ l) h t u = joined_second (join_by Plus) 0 0 a l b [] u ∙ ap₂ ◌∷◌ (add_none b (0 + b.weight) h (omega arith)) (add_nothing t)

pub add_same : {count from : ℕ} (a b : Arc) (l : List Arc) → Terms count from l → a.place ≡ b.place → joined (join_by Plus) 0 0 (a ∷ l) (b ∷ []) ≡ term a.place (limit (a.weight + b.weight)) ∷ l
add_same a b l t e = joined_both (join_by Plus) 0 0 a l b [] e ∙ ap (λ k. term a.place (limit (a.weight + b.weight)) ∷ k) (add_nothing t)
