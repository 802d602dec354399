-- Laws of lists: membership, keys that differ, where an element stands, numbers from a number on, lengths. Assumes nothing.
use Rattle.std.specs.Prelude.{◌+◌, ◌&&◌, ◌||◌, ◌∷◌, ◌++◌, if◌then◌else◌}
use mathlib.Core.Path.{◌≡◌, refl, sym, ap, ap₂, ◌∙◌}
use mathlib.Core.Logic.{⊎_elim}
use mathlib.Core.List.Memᴰ
use mathlib.Core.List.{Memᴰ, append_assoc, append-nil, filter_map-cons-none, filter_map-cons-some}
use Prim.Native.Nat.{◌≤◌, ◌<◌}
use native.Mathlib.Omega.{arith}
use native.Mathlib.Numerals.{add-one}
use native.Mathlib.Nat.{eq-or-lt_of_le}
use borrow.Author.Tests.{eq-eqb, eqb-true}
use lib.ListN.{length-append}
use Rattle.reading.specs.Basics.{ℕ, zero, suc, Bool, true, false, List, [], map, flat_map, filter_map, Option, none, some, Option-elim, length, get_or, get_elem?, eqb, given, with, numbers_from, below, any, every, position, sum, same}

-- ---- membership
abbrev pub In : {A : Type 0} → A → List A → Type 0
In a l = Memᴰ a l

-- what holds of every element
pub data All {A : Type 0} (P : A → Type 0) : List A → Type 0 where
  end : All P []
  also : {a : A} {l : List A} → P a → All P l → All P (a ∷ l)

module _ {A : Type 0} where
  -- an element of a longer list is the first, or one of the others
  pub in_cases : {a b : A} {l : List A} {C : Type 0} → (a ≡ b → C) → (In a l → C) → In a (b ∷ l) → C
  in_cases f g m = ⊎_elim f g (Memᴰ.cases_cons m)

  -- the first is an element, and so are the others
  pub here : {a : A} {l : List A} → In a (a ∷ l)
  here = Memᴰ.head refl

  pub there : {a b : A} {l : List A} → In a l → In a (b ∷ l)
  there m = Memᴰ.tail m

  -- the only element of a list
  pub in_one : {a b : A} → In a (b ∷ []) → a ≡ b
  in_one m = in_cases (λ e. e) (λ k. absurd (Memᴰ.not-nil k)) m

  pub one_in : {a b : A} → a ≡ b → In a (b ∷ [])
  one_in e = Memᴰ.head e

  pub not_one : {a b : A} → (a ≡ b → ⊥) → In a (b ∷ []) → ⊥
  not_one ne m = ne (in_one m)

  -- what holds of all holds of each, and back
  pub all_in : {P : A → Type 0} {l : List A} {a : A} → All P l → In a l → P a
  all_in end m = absurd (Memᴰ.not-nil m)
  all_in {P} (also {a = b} {l = l} p q) m = in_cases (λ e. rw e p) (λ k. all_in q k) m

  pub in_all : {P : A → Type 0} (l : List A) → ((a : A) → In a l → P a) → All P l
  in_all [] h = end
  in_all (b ∷ l) h = also (h b here) (in_all l (λ a m. h a (there m)))

  -- of one more at the end, and of the element at a place
  pub all_with : {P : A → Type 0} {l : List A} {a : A} → All P l → P a → All P (with l a)
  all_with end p = also p end
  all_with (also q r) p = also q (all_with r p)

  pub all_get_d : {P : A → Type 0} {l : List A} (i : ℕ) (d : A) → All P l → i < length l → P (get_or l i d)
  all_get_d i d end lt = absurd (omega arith)
  all_get_d zero d (also p q) lt = p
  all_get_d (suc i) d (also p q) lt = all_get_d i d q (omega arith)

  -- what stands at a place is an element, and an element stands at a place
  pub at_in : (l : List A) (i : ℕ) {a : A} → get_elem? l i ≡ some a → In a l
  at_in [] i e = let z : ◌≡◌ {A = ℕ} 0 1 = cc in absurd (omega arith)
  at_in (b ∷ l) zero {a} e = let q : a ≡ b = cc in Memᴰ.head q
  at_in (b ∷ l) (suc i) e = there (at_in l i e)

  pub in_at : {a : A} (l : List A) → In a l → (i : ℕ) × (get_elem? l i ≡ some a)
  in_at [] m = absurd (Memᴰ.not-nil m)
  in_at {a} (b ∷ l) m = in_cases (λ e. (0, ap some (sym e))) (λ k. let (i, e) = in_at l k in (suc i, e)) m

  -- something stands at every place below the length, and nowhere else
  pub at_below : (l : List A) (i : ℕ) → i < length l → (a : A) × (get_elem? l i ≡ some a)
  at_below [] i h = absurd (omega arith)
  at_below (b ∷ l) zero h = (b, refl)
  at_below (b ∷ l) (suc i) h = at_below l i (omega arith)

  pub below_at : (l : List A) (i : ℕ) {a : A} → get_elem? l i ≡ some a → i < length l
  below_at [] i e = let z : ◌≡◌ {A = ℕ} 0 1 = cc in absurd (omega arith)
  below_at (b ∷ l) zero e = omega arith
  below_at (b ∷ l) (suc i) e = let h = below_at l i e in omega arith

  -- read with a default, it is what stands there
  pub get_d_at : (l : List A) (i : ℕ) (d : A) {a : A} → get_elem? l i ≡ some a → get_or l i d ≡ a
  get_d_at [] i d e = let z : ◌≡◌ {A = ℕ} 0 1 = cc in absurd (omega arith)
  get_d_at (b ∷ l) zero d e = cc
  get_d_at (b ∷ l) (suc i) d e = get_d_at l i d e

module _ {A B : Type 0} where
  -- through a function
  pub all_map : {P : B → Type 0} (f : A → B) {l : List A} → All (λ a. P (f a)) l → All P (map f l)
  all_map f end = end
  all_map f (also p q) = also p (all_map f q)

  pub at_map : (f : A → B) (l : List A) (i : ℕ) {a : A} → get_elem? l i ≡ some a → get_elem? (map f l) i ≡ some (f a)
  at_map f [] i e = let z : ◌≡◌ {A = ℕ} 0 1 = cc in absurd (omega arith)
  at_map f (b ∷ l) zero e = cc
  at_map f (b ∷ l) (suc i) e = at_map f l i e

  pub in_map : (f : A → B) {a : A} {l : List A} → In a l → In (f a) (map f l)
  in_map f {a} {l} m = go l m
    where
      go : (l : List A) → In a l → In (f a) (map f l)
      go [] m = absurd (Memᴰ.not-nil m)
      go (b ∷ l) m = in_cases (λ e. Memᴰ.head (ap f e)) (λ k. there (go l k)) m

  -- membership in a joined list, and in the part of a list that passes
  pub in_flat_map : (f : A → List B) {a : A} {b : B} (l : List A) → In a l → In b (f a) → In b (flat_map f l)
  unfolding flat_map
  in_flat_map f [] m k = absurd (Memᴰ.not-nil m)
  in_flat_map f (x ∷ l) m k = in_cases (λ e. Memᴰ.append_left (flat_map f l) (rw e at k)) (λ n. Memᴰ.append_right (f x) (in_flat_map f l n k)) m

  pub of_flat_map : (f : A → List B) {b : B} (l : List A) → In b (flat_map f l) → (a : A) × In a l × In b (f a)
  unfolding flat_map
  of_flat_map f [] m = absurd (Memᴰ.not-nil m)
  of_flat_map f (x ∷ l) m = ⊎_elim (λ k. (x, here, k)) (λ k. let (a, n, o) = of_flat_map f l k in (a, there n, o)) (Memᴰ.append_cases (f x) m)

  pub in_filter_map : (f : A → Option B) {a : A} {b : B} (l : List A) → In a l → f a ≡ some b → In b (filter_map f l)
  in_filter_map f [] m e = absurd (Memᴰ.not-nil m)
  in_filter_map f {a} {b} (x ∷ l) m e = in_cases (λ p. rw (filter_map-cons-some f x l (ap f (sym p) ∙ e)) here) (λ k. go (f x) refl (in_filter_map f l k e)) m
    where
      go : (o : Option B) → f x ≡ o → In b (filter_map f l) → In b (filter_map f (x ∷ l))
      go none q n = rw (filter_map-cons-none f x l q) n
      go (some y) q n = rw (filter_map-cons-some f x l q) (there n)

  pub of_filter_map : (f : A → Option B) {b : B} (l : List A) → In b (filter_map f l) → (a : A) × In a l × (f a ≡ some b)
  unfolding filter_map
  of_filter_map f [] m = absurd (Memᴰ.not-nil m)
  of_filter_map f {b} (x ∷ l) m = go (f x) refl (λ k. let (a, n, e) = of_filter_map f l k in (a, there n, e)) m
    where
      go : (o : Option B) → f x ≡ o → (In b (filter_map f l) → (a : A) × In a (x ∷ l) × (f a ≡ some b)) → In b (Option-elim o (filter_map f l) (λ y. y ∷ filter_map f l))
          → (a : A) × In a (x ∷ l) × (f a ≡ some b)
      go none q h n = h n
      go (some y) q h n = in_cases (λ e. (x, here, cc)) h n

-- ---- keys that differ
pub data Apart {A K : Type 0} (key : A → K) : List A → Type 0 where
  alone : Apart key []
  new : {a : A} {l : List A} → ((b : A) → In b l → key a ≡ key b → ⊥) → Apart key l → Apart key (a ∷ l)

module _ {A K : Type 0} (key : A → K) where
  -- two lists that share no key
  pub apart_append : {l m : List A} → Apart key l → Apart key m → ((a b : A) → In a l → In b m → key a ≡ key b → ⊥) → Apart key (l ++ m)
  apart_append alone q h = q
  apart_append (new {a = a} {l = l} f p) q h =
      new (λ b n e. ⊎_elim (λ k. f b k e) (λ k. h a b here k e) (Memᴰ.append_cases l n)) (apart_append p q (λ x y i j e. h x y (there i) j e))

  -- a key that tells the elements of a list apart as well
  pub apart_by : {L : Type 0} (other : A → L) {l : List A} → ((a b : A) → In a l → In b l → other a ≡ other b → key a ≡ key b) → Apart key l → Apart other l
  apart_by other h alone = alone
  apart_by other h (new {a = a} f p) = new (λ b m e. f b m (h a b here (there m) e)) (apart_by other (λ x y i j e. h x y (there i) (there j) e) p)

module _ {A B K : Type 0} (key : B → K) where
  pub apart_map : (f : A → B) {l : List A} → Apart (λ a. key (f a)) l → Apart key (map f l)
  apart_map f alone = alone
  apart_map f (new {l = l} g p) = new (λ b m e. let (a, n, q) = Memᴰ.of_map f l m in g a n (e ∙ sym (ap key q))) (apart_map f p)

  -- joined lists, each apart, that share no key
  pub apart_flat_map : (f : A → List B) {l : List A} → Apart (λ a. a) l → ((a : A) → In a l → Apart key (f a))
      → ((x y : A) (a b : B) → In x l → In y l → In a (f x) → In b (f y) → key a ≡ key b → x ≡ y) → Apart key (flat_map f l)
  unfolding flat_map
  apart_flat_map f alone g h = alone
  apart_flat_map f (new {a = x} {l = l} d p) g h =
      apart_append key (g x here) (apart_flat_map f p (λ a m. g a (there m)) (λ y z a b i j k n e. h y z a b (there i) (there j) k n e))
      (λ a b m n e. let (y, i, k) = of_flat_map f l n in d y i (h x y a b here (there i) m k e))

  -- the part that passes, under the same key
  pub apart_filter_map : {code : A → K} (f : A → Option B) {l : List A} → ((a : A) (b : B) → f a ≡ some b → key b ≡ code a) → Apart code l → Apart key (filter_map f l)
  unfolding filter_map
  apart_filter_map {code} f h alone = alone
  apart_filter_map {code} f h (new {a = x} {l = l} d p) = go (f x) refl (apart_filter_map f h p)
    where
      go : (o : Option B) → f x ≡ o → Apart key (filter_map f l) → Apart key (Option-elim o (filter_map f l) (λ y. y ∷ filter_map f l))
      go none q r = r
      go (some y) q r = new (λ b m e. let (a, n, k) = of_filter_map f l m in d a n (sym (h x y q) ∙ e ∙ h a b k)) r

-- ---- where an element stands
pub same_refl : (l : List ℕ) → same l l ≡ true
unfolding same
same_refl [] = refl
same_refl (a ∷ l) = rw (eq-eqb a a refl, same_refl l)

pub same_true : (l m : List ℕ) → same l m ≡ true → l ≡ m
unfolding same
same_true [] [] e = refl
same_true [] (b ∷ m) e = cc
same_true (a ∷ l) [] e = cc
same_true (a ∷ l) (b ∷ m) e = go (eqb a b) refl (same_true l m) e
  where
    go : (t : Bool) → eqb a b ≡ t → (same l m ≡ true → l ≡ m) → t && same l m ≡ true → a ∷ l ≡ b ∷ m
    go true p f q = ap₂ ◌∷◌ (eqb-true a b p) (f q)
    go false p f q = cc

module _ {A : Type 0} where
  -- a position is that of an element which passes the test
  pub position_at : (test : A → Bool) (l : List A) {i : ℕ} → position test l ≡ some i → (a : A) × (get_elem? l i ≡ some a) × (test a ≡ true)
  unfolding position
  position_at test [] e = let z : ◌≡◌ {A = ℕ} 0 1 = cc in absurd (omega arith)
  position_at test (b ∷ l) {i} e = by (test b) refl (λ j f. position_at test l f) e
    where
      after : (o : Option ℕ) → ((j : ℕ) → o ≡ some j → (a : A) × (get_elem? l j ≡ some a) × (test a ≡ true)) → (given o none λ j. some (j + 1)) ≡ some i
          → (a : A) × (get_elem? (b ∷ l) i ≡ some a) × (test a ≡ true)
      after none ih q = let z : ◌≡◌ {A = ℕ} 0 1 = cc in absurd (omega arith)
      after (some j) ih q = let z : i ≡ suc j = cc (add-one j) in let (a, f, t) = ih j refl in (a, rw z f, t)

      by : (t : Bool) → test b ≡ t → ((j : ℕ) → position test l ≡ some j → (a : A) × (get_elem? l j ≡ some a) × (test a ≡ true))
          → (if t then some 0 else given (position test l) none λ j. some (j + 1)) ≡ some i → (a : A) × (get_elem? (b ∷ l) i ≡ some a) × (test a ≡ true)
      by true p ih q = let z : i ≡ 0 = cc in (b, rw z refl, p)
      by false p ih q = after (position test l) ih q

  -- where no element passes there is none
  pub position_none : (test : A → Bool) (l : List A) → ((a : A) → In a l → test a ≡ false) → position test l ≡ none
  unfolding position
  position_none test [] h = refl
  position_none test (b ∷ l) h = rw (h b here, position_none test l (λ a m. h a (there m)))

-- the element at a place stands there by its key, where keys differ
pub at_position : {A : Type 0} (key : A → List ℕ) {l : List A} (i : ℕ) {a : A} → Apart key l → get_elem? l i ≡ some a → position (λ b. same (key b) (key a)) l ≡ some i
unfolding position
at_position key i alone e = cc
at_position key zero {a} (new {a = b} {l = l} d p) e =
    let q : b ≡ a = cc in rw (q, same_refl (key a))
at_position key (suc i) {a} (new {a = b} {l = l} d p) e = rw (apart_test, at_position key i p e) (ap some (add-one i))
  where
    apart_test : same (key b) (key a) ≡ false
    apart_test = go (same (key b) (key a)) refl
      where
        go : (t : Bool) → same (key b) (key a) ≡ t → t ≡ false
        go true q = absurd (d a (at_in l i e) (same_true (key b) (key a) q))
        go false q = refl

-- ---- the numbers from a number on
pub of_from : (a n : ℕ) {p : ℕ} → In p (numbers_from a n) → (a ≤ p) × (p < a + n)
unfolding numbers_from
of_from a zero m = absurd (Memᴰ.not-nil m)
of_from a (suc n) m = in_cases (λ e. omega arith) (λ k. let h = of_from (a + 1) n k in omega arith) m

pub in_from : (a n : ℕ) {p : ℕ} → a ≤ p → p < a + n → In p (numbers_from a n)
unfolding numbers_from
in_from a zero le lt = absurd (omega arith)
in_from a (suc n) le lt = ⊎_elim (λ e. Memᴰ.head (sym e)) (λ h. there (in_from (a + 1) n (omega arith) (omega arith))) (eq-or-lt_of_le le)

pub apart_from : (a n : ℕ) → Apart (λ p. p) (numbers_from a n)
unfolding numbers_from
apart_from a zero = alone
apart_from a (suc n) = new (λ b m e. let q : a ≡ b = e in let h = of_from (a + 1) n m in omega arith) (apart_from (a + 1) n)

pub length_from : (a n : ℕ) → length (numbers_from a n) ≡ n
unfolding numbers_from
length_from a zero = refl
length_from a (suc n) = ap suc (length_from (a + 1) n)

-- each of them, and what a function gives of each
pub from_at : (a n i : ℕ) → i < n → get_elem? (numbers_from a n) i ≡ some (a + i)
unfolding numbers_from
from_at a zero i h = absurd (omega arith)
from_at a (suc n) zero h = let e : a ≡ a + 0 = omega arith in ap some e
from_at a (suc n) (suc i) h = from_at (a + 1) n i (omega arith) ∙ ap some (let e : a + 1 + i ≡ a + suc i = omega arith in e)

pub get_d_from : (f : ℕ → ℕ) (a n i : ℕ) → i < n → get_or (map f (numbers_from a n)) i 0 ≡ f (a + i)
get_d_from f a n i h = get_d_at (map f (numbers_from a n)) i 0 (at_map f (numbers_from a n) i (from_at a n i h))

-- ---- the numbers below a number
pub length-below : (n : ℕ) → length (below n) ≡ n
length-below n = length_from 0 n

pub below_is : (n i : ℕ) → i < n → get_elem? (below n) i ≡ some i
below_is n i h = from_at 0 n i h ∙ ap some (let e : 0 + i ≡ i = omega arith in e)

pub get_d_below : (f : ℕ → ℕ) (n i : ℕ) → i < n → get_or (map f (below n)) i 0 ≡ f i
get_d_below f n i h = get_d_from f 0 n i h ∙ (let e : 0 + i ≡ i = omega arith in ap f e)

-- ---- the numbers from one further on
pub map_from : {A : Type 0} (f : ℕ → A) (a n : ℕ) → map f (numbers_from (a + 1) n) ≡ map (λ i. f (i + 1)) (numbers_from a n)
unfolding numbers_from
map_from f a zero = refl
map_from f a (suc n) = ap (λ l. f (a + 1) ∷ l) (map_from f (a + 1) n)

-- ---- a number among some, tested
pub in_any : (b : ℕ) (l : List ℕ) → any (eqb b) l ≡ true → In b l
unfolding any
in_any b [] e = let z : ◌≡◌ {A = ℕ} 0 1 = cc in absurd (omega arith)
in_any b (a ∷ l) e = go (eqb b a) refl (in_any b l) e
  where
    go : (t : Bool) → eqb b a ≡ t → (any (eqb b) l ≡ true → In b l) → t || any (eqb b) l ≡ true → In b (a ∷ l)
    go true f ih q = Memᴰ.head (eqb-true b a f)
    go false f ih q = there (ih q)

pub any_in : (b : ℕ) (l : List ℕ) → In b l → any (eqb b) l ≡ true
unfolding any
any_in b [] m = absurd (Memᴰ.not-nil m)
any_in b (a ∷ l) m = in_cases (λ e. rw (eq-eqb b a e)) (λ k. later (eqb b a) (any_in b l k)) m
  where
    later : (t : Bool) → any (eqb b) l ≡ true → t || any (eqb b) l ≡ true
    later true e = refl
    later false e = e

pub any_out : (b : ℕ) (l : List ℕ) → (In b l → ⊥) → any (eqb b) l ≡ false
any_out b l h = go (any (eqb b) l) refl
  where
    go : (t : Bool) → any (eqb b) l ≡ t → t ≡ false
    go true e = absurd (h (in_any b l e))
    go false e = refl

-- ---- equal at each element
module _ {A : Type 0} where
  -- two functions that agree on a list give the same
  pub any_same : (f g : A → Bool) (l : List A) → ((a : A) → In a l → f a ≡ g a) → any f l ≡ any g l
  unfolding any
  any_same f g [] h = refl
  any_same f g (a ∷ l) h = ap₂ ◌||◌ (h a here) (any_same f g l (λ b m. h b (there m)))

  pub map_same : {B : Type 0} (f g : A → B) (l : List A) → ((a : A) → In a l → f a ≡ g a) → map f l ≡ map g l
  map_same f g [] h = refl
  map_same f g (a ∷ l) h = ap₂ ◌∷◌ (h a here) (map_same f g l (λ b m. h b (there m)))

  pub flat_map-same : {B : Type 0} (f g : A → List B) (l : List A) → ((a : A) → In a l → f a ≡ g a) → flat_map f l ≡ flat_map g l
  unfolding flat_map
  flat_map-same f g [] h = refl
  flat_map-same f g (a ∷ l) h = ap₂ ◌++◌ (h a here) (flat_map-same f g l (λ b m. h b (there m)))

  -- one function after another
  pub map-map : {B C : Type 0} (f : A → B) (g : B → C) (l : List A) → map g (map f l) ≡ map (λ a. g (f a)) l
  map-map f g [] = refl
  map-map f g (a ∷ l) = ap (λ m. g (f a) ∷ m) (map-map f g l)

  pub map_flat : {B C : Type 0} (f : A → B) (g : B → List C) (l : List A) → flat_map g (map f l) ≡ flat_map (λ a. g (f a)) l
  unfolding flat_map
  map_flat f g [] = refl
  map_flat f g (a ∷ l) = ap (λ m. g (f a) ++ m) (map_flat f g l)

  -- what is made of two joined lists, and of one more at the end
  pub flat_append : {B : Type 0} (f : A → List B) (l m : List A) → flat_map f (l ++ m) ≡ flat_map f l ++ flat_map f m
  unfolding flat_map
  flat_append f [] m = refl
  flat_append f (a ∷ l) m = ap (λ k. f a ++ k) (flat_append f l m) ∙ sym (append_assoc (f a) (flat_map f l) (flat_map f m))

  pub flat_with : {B : Type 0} (f : A → List B) (l : List A) (a : A) → flat_map f (with l a) ≡ flat_map f l ++ f a
  unfolding flat_map
  flat_with f l a = flat_append f l (a ∷ []) ∙ ap (λ k. flat_map f l ++ k) (append-nil (f a))

  -- a test of every element
  pub every_in : (test : A → Bool) (l : List A) → every test l ≡ true → All (λ a. test a ≡ true) l
  unfolding every
  every_in test [] e = end
  every_in test (a ∷ l) e = go (test a) refl (every_in test l) e
    where
      go : (t : Bool) → test a ≡ t → (every test l ≡ true → All (λ b. test b ≡ true) l) → t && every test l ≡ true → All (λ b. test b ≡ true) (a ∷ l)
      go true p ih q = also p (ih q)
      go false p ih q = let z : ◌≡◌ {A = ℕ} 0 1 = cc in absurd (omega arith)

  pub in_every : (test : A → Bool) {l : List A} → All (λ a. test a ≡ true) l → every test l ≡ true
  unfolding every
  in_every test end = refl
  in_every test (also p q) = rw (p, in_every test q)

-- ---- lengths
module _ {A B : Type 0} where
  -- of joined lists, and of those that pass
  pub length-flat_map : (f : A → List B) (l : List A) → length (flat_map f l) ≡ sum (map (λ a. length (f a)) l)
  unfolding flat_map
  length-flat_map f [] = refl
  length-flat_map f (a ∷ l) = length-append (f a) (flat_map f l) ∙ ap (λ n. length (f a) + n) (length-flat_map f l)

  pub length-filter_map : (f : A → Option B) (l : List A) → length (filter_map f l) ≤ length l
  unfolding filter_map
  length-filter_map f [] = omega arith
  length-filter_map f (a ∷ l) = go (f a) (length-filter_map f l)
    where
      go : (o : Option B) → length (filter_map f l) ≤ length l → length (Option-elim o (filter_map f l) (λ y. y ∷ filter_map f l)) ≤ suc (length l)
      go none h = omega arith
      go (some y) h = omega arith

-- a list by its elements
pub map_get_d : {A B : Type 0} (f : A → B) (l : List A) (d : A) → map (λ i. f (get_or l i d)) (below (length l)) ≡ map f l
unfolding numbers_from
map_get_d f [] d = refl
map_get_d f (a ∷ l) d = ap (λ m. f a ∷ m) (map_from (λ i. f (get_or (a ∷ l) i d)) 0 (length l) ∙ map_same (λ i. f (get_or (a ∷ l) (i + 1) d)) (λ i. f (get_or l i d)) (below (length l)) (λ i m. rw (add-one i)) ∙ map_get_d f l d)

-- ---- pieces
-- pieces of a list made piece by piece
pub flat_flat : {A B C : Type 0} (f : B → List C) (g : A → List B) (l : List A) → flat_map f (flat_map g l) ≡ flat_map (λ a. flat_map f (g a)) l
unfolding flat_map
flat_flat f g [] = refl
flat_flat f g (a ∷ l) = flat_append f (g a) (flat_map g l) ∙ ap (λ k. flat_map f (g a) ++ k) (flat_flat f g l)

-- one more number at the end
pub flat_more : {A : Type 0} (f : ℕ → List A) (a p : ℕ) → flat_map f (numbers_from a (suc p)) ≡ flat_map f (numbers_from a p) ++ f (a + p)
unfolding flat_map numbers_from
flat_more f a zero = let e : a + 0 ≡ a = omega arith in rw (e, append-nil)
flat_more f a (suc p) = let e : a + suc p ≡ a + 1 + p = omega arith in rw (flat_more f (a + 1) p, e, append_assoc)
