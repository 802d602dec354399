-- The binding of each number: choices and bindings by their place in the list. Assumes nothing.
use Rattle.std.specs.Prelude.{◌+◌, ◌*◌, ◌/◌, ◌%◌, ◌∷◌, ◌++◌}
use mathlib.Core.Path.{◌≡◌, refl, sym, ap, ◌∙◌}
use Prim.Native.Nat.{◌≤◌, ◌<◌, ◌-◌}
use native.Mathlib.Omega.{arith}
use native.Mathlib.Numerals.{add-one}
use native.Mathlib.Nat.{zero-add, mul-zero, zero-mul, suc-mul, mul_assoc, mod-lt, mod-eq_of_lt, div-eq_of_lt, div-add-mod', div-lt_iff_lt-mul, mul-add-div_right, mul-add-mod_self_right, mul-le-mul_right}
use borrow.Author.Tests.{ltb-true, ltb-false}
use lib.ListN.{length-map}
use lib.Seq.{take-length, take-suc, length-take-le, get_or-take}
use Rattle.reading.specs.Basics.{ℕ, zero, suc, Bool, true, false, ltb, List, [], map, flat_map, some, length, take, get_or, get_elem?, with, numbers_from, below, sum, product}
use Rattle.reading.proofs.Lists.{map_same, map_get_d, of_from, at_map}
use Rattle.net_parts.proofs.Totals.{sum-with}
use Rattle.net.specs.Net.{Transition, Net, sizes_of, binding_space, no_transition, transition_at}
use Rattle.bindings.specs.Effect.{choices, bindings}
use Rattle.bindings.specs.internal.Numbers.{digits, number, before}
use Rattle.bindings.proofs.Bindings.{Fit, none, more, same_each, choices-length, bound, bindings_of, bindings-length}

-- ---- one size more at the end
pub product-with : (sizes : List ℕ) (size : ℕ) → product (with sizes size) ≡ product sizes * size
product-with [] size = omega arith
product-with (s ∷ sizes) size = ap (λ p. s * p) (product-with sizes size) ∙ sym (mul_assoc s (product sizes) size)

pub digits-length : (sizes : List ℕ) (i : ℕ) → length (digits sizes i) ≡ length sizes
unfolding digits
digits-length [] i = refl
digits-length (size ∷ sizes) i = ap suc (digits-length sizes i)

-- ---- a number and its colours give each other
pos_last : (a b : ℕ) → 0 < a * b → 0 < b
pos_last a zero h = absurd (omega (arith, mul-zero a))
pos_last a (suc b) h = omega arith

pos_first : (a b : ℕ) → 0 < a * b → 0 < a
pos_first zero b h = absurd (omega (arith, zero-mul b))
pos_first (suc a) b h = omega arith

-- whole rounds do not count
pub digits_round : (sizes : List ℕ) (c i : ℕ) → 0 < product sizes → digits sizes (c * product sizes + i) ≡ digits sizes i
unfolding digits
digits_round [] c i pos = refl
digits_round (size ∷ sizes) c i pos =
    let p = pos_last size (product sizes) pos in
    rw (← mul_assoc c size (product sizes), mul-add-div_right p (c * size) i, mul-add-mod_self_right c size (i / product sizes), digits_round sizes (c * size) i p)

pub digits_rest : (sizes : List ℕ) (i : ℕ) → 0 < product sizes → digits sizes (i % product sizes) ≡ digits sizes i
digits_rest sizes i pos = sym (digits_round sizes (i / product sizes) (i % product sizes) pos) ∙ ap (digits sizes) (div-add-mod' i (product sizes))

-- the colours of a number fit
pub digits_fit : (sizes : List ℕ) (i : ℕ) → 0 < product sizes → Fit sizes (digits sizes i)
unfolding digits
digits_fit [] i pos = none
digits_fit (size ∷ sizes) i pos = more (mod-lt (i / product sizes) (pos_first size (product sizes) pos)) (digits_fit sizes i (pos_last size (product sizes) pos))

-- a number of colours that fit is below the product, and has these colours
pub number-below : {sizes colours : List ℕ} → Fit sizes colours → number sizes colours < product sizes
unfolding number
number-below none = omega arith
number-below (more {size = size} {c = c} {sizes = sizes} {colours = colours} lt f) =
    let h = number-below f in
    let le : suc c ≤ size = omega arith in
    omega (arith, mul-le-mul_right (product sizes) le, suc-mul c (product sizes))

pub digits_number : {sizes colours : List ℕ} → Fit sizes colours → digits sizes (number sizes colours) ≡ colours
unfolding digits number
digits_number none = refl
digits_number (more {size = size} {c = c} {sizes = sizes} {colours = colours} lt f) =
    let h = number-below f in
    let p : 0 < product sizes = omega arith in
    let q : c + 0 ≡ c = omega arith in
    rw (mul-add-div_right p c (number sizes colours), div-eq_of_lt h, q, mod-eq_of_lt lt, digits_round sizes c (number sizes colours) p, digits_number f)

-- a number below the product is that of its colours
pub number_digits : (sizes : List ℕ) (i : ℕ) → i < product sizes → number sizes (digits sizes i) ≡ i
unfolding digits number
number_digits [] i lt = omega arith
number_digits (size ∷ sizes) i lt =
    let p = pos_last size (product sizes) (omega arith) in
    let first : i / product sizes < size = (div-lt_iff_lt-mul p).1 lt in
    rw (mod-eq_of_lt first, ← digits_rest sizes i p, number_digits sizes (i % product sizes) (mod-lt i p)) (div-add-mod' i (product sizes))

-- what stands after the last size does not count
pub number_front : (sizes colours : List ℕ) → number sizes (take (length sizes) colours) ≡ number sizes colours
unfolding number
number_front [] colours = refl
number_front (size ∷ sizes) [] = refl
number_front (size ∷ sizes) (c ∷ colours) = ap (λ x. c * product sizes + x) (number_front sizes colours)

-- ---- by place in the list
-- past the front of two joined lists
at_front : {A : Type 0} (l m : List A) (j : ℕ) → j < length l → get_elem? (l ++ m) j ≡ get_elem? l j
at_front [] m j lt = absurd (omega arith)
at_front (a ∷ l) m zero lt = refl
at_front (a ∷ l) m (suc j) lt = at_front l m j (omega arith)

at_past : {A : Type 0} (l m : List A) (j : ℕ) → get_elem? (l ++ m) (length l + j) ≡ get_elem? m j
at_past [] m j = rw (zero-add j)
at_past (a ∷ l) m j = let e : suc (length l) + j ≡ suc (length l + j) = omega arith in rw e (at_past l m j)

-- lists joined for the numbers from a on
at_joined : {A : Type 0} (f : ℕ → List A) (a n t j : ℕ) → t < n → j < length (f (a + t))
    → get_elem? (flat_map f (numbers_from a n)) (sum (map (λ i. length (f i)) (numbers_from a t)) + j) ≡ get_elem? (f (a + t)) j
unfolding flat_map numbers_from
at_joined f a zero t j lt inside = absurd (omega arith)
at_joined f a (suc n) zero j lt inside =
    let e : a + 0 ≡ a = omega arith in
    rw (zero-add j, e) (at_front (f a) (flat_map f (numbers_from (a + 1) n)) j (rw e at inside))
at_joined f a (suc n) (suc t) j lt inside =
    let e : a + suc t ≡ a + 1 + t = omega arith in
    let before : ℕ = sum (map (λ i. length (f i)) (numbers_from (a + 1) t)) in
    let p : length (f a) + before + j ≡ length (f a) + (before + j) = omega arith in
    rw (p, e) (at_past (f a) (flat_map f (numbers_from (a + 1) n)) (before + j) ∙ at_joined f (a + 1) n t j (omega arith) (rw e at inside))

-- the choice of a number
pub choices_at : (sizes : List ℕ) (i : ℕ) → i < product sizes → get_elem? (choices sizes) i ≡ some (digits sizes i)
unfolding choices digits
choices_at [] i lt = let e : i ≡ 0 = omega arith in rw e
choices_at (size ∷ sizes) i lt =
    let p = pos_last size (product sizes) (omega arith) in
    let c : ℕ = i / product sizes in
    let j : ℕ = i % product sizes in
    let first : c < size = (div-lt_iff_lt-mul p).1 lt in
    let f : ℕ → List (List ℕ) = λ c. map (λ rest. c ∷ rest) (choices sizes) in
    let len : (c : ℕ) → length (f c) ≡ product sizes = λ c. length-map (choices sizes) (λ rest. c ∷ rest) ∙ choices-length sizes in
    let e : sum (map (λ i. length (f i)) (below c)) + j ≡ i =
    ap (λ l. sum l + j) (map_same (λ c. length (f c)) (λ c. product sizes) (below c) (λ c m. len c)) ∙ ap (λ s. s + j) (same_each (product sizes) 0 c) ∙ div-add-mod' i (product sizes) in
    let k : 0 + c ≡ c = omega arith in
    rw (mod-eq_of_lt first, ← digits_rest sizes i p)
    (ap (get_elem? (flat_map f (below size))) (sym e)
    ∙ at_joined f 0 size c j first (omega (arith, len (0 + c), mod-lt i p))
    ∙ ap (λ c. get_elem? (f c) j) k
    ∙ at_map (λ rest. c ∷ rest) (choices sizes) j (choices_at sizes j (mod-lt i p)))

-- ---- bindings
module _ (n : Net) where
  abbrev start : Transition
  start = no_transition

  -- one transition further
  pub before_next : (t : ℕ) → t < length n.transitions → before n (t + 1) ≡ before n t + product (sizes_of n (transition_at n t))
  before_next t lt =
      let e : take (t + 1) n.transitions ≡ with (take t n.transitions) (transition_at n t) = ap (λ k. take k n.transitions) (add-one t) ∙ take-suc n.transitions t start lt in
      ap (binding_space n) e ∙ sum-with (λ t. product (sizes_of n t)) (take t n.transitions) (transition_at n t)

  pub before_all : before n (length n.transitions) ≡ length (bindings n)
  before_all = ap (binding_space n) (take-length n.transitions) ∙ sym (bindings-length n)

  bindings_of_lem : (t : ℕ) → length (bindings_of n t) ≡ product (sizes_of n (transition_at n t))
  bindings_of_lem t = length-map (choices (sizes_of n (transition_at n t))) (bound t) ∙ choices-length (sizes_of n (transition_at n t))

  before_is : (t : ℕ) → t ≤ length n.transitions → sum (map (λ i. length (bindings_of n i)) (below t)) ≡ before n t
  before_is t le =
      let front : List Transition = take t n.transitions in
      let is : map (λ i. product (sizes_of n (get_or front i start))) (below t) ≡ map (λ t. product (sizes_of n t)) front =
      rw (length-take-le t n.transitions le) at (map_get_d (λ t. product (sizes_of n t)) front start) in
      ap sum (map_same (λ i. length (bindings_of n i)) (λ i. product (sizes_of n (get_or front i start))) (below t)
      (λ i m. bindings_of_lem i ∙ ap (λ t. product (sizes_of n t)) (sym (get_or-take t n.transitions i start (omega (arith, of_from 0 t m))))) ∙ is)

  -- the binding of a number
  pub bindings_at : (t i : ℕ) → t < length n.transitions → i < product (sizes_of n (transition_at n t))
      → get_elem? (bindings n) (before n t + i) ≡ some (bound t (digits (sizes_of n (transition_at n t)) i))
  unfolding bindings
  bindings_at t i lt inside =
      let e : 0 + t ≡ t = omega arith in
      let len : length (bindings_of n (0 + t)) ≡ product (sizes_of n (transition_at n t)) = rw e (bindings_of_lem t) in
      ap (λ k. get_elem? (flat_map (bindings_of n) (below (length n.transitions))) (k + i)) (sym (before_is t (omega arith)))
      ∙ at_joined (bindings_of n) 0 (length n.transitions) t i lt (omega arith)
      ∙ ap (λ t. get_elem? (bindings_of n t) i) e
      ∙ at_map (bound t) (choices (sizes_of n (transition_at n t))) i (choices_at (sizes_of n (transition_at n t)) i inside)

  -- each binding has a transition and a number there
  pub record BindingPlaced (j : ℕ) : Type 0 where
    pub transition : ℕ
    pub index : ℕ
    pub stands : transition < length n.transitions
    pub inside : index < product (sizes_of n (transition_at n transition))
    pub is : j ≡ before n transition + index

  placed_below : (j k : ℕ) → k ≤ length n.transitions → j < before n k → BindingPlaced j
  placed_below j zero le lt = absurd (omega arith)
  placed_below j (suc k) le lt = go (ltb j (before n k)) refl (placed_below j k (omega arith))
    where
      go : (t : Bool) → ltb j (before n k) ≡ t → (j < before n k → BindingPlaced j) → BindingPlaced j
      go true e ih = ih (ltb-true j (before n k) e)
      go false e ih =
          let h = ltb-false j (before n k) e in
          let q : before n (suc k) ≡ before n k + product (sizes_of n (transition_at n k)) = ap (before n) (sym (add-one k)) ∙ before_next k (omega arith) in
          record { transition = k; index = j - before n k; stands = omega arith; inside = omega arith; is = omega arith }

  pub placed : (j : ℕ) → j < length (bindings n) → BindingPlaced j
  placed j lt = placed_below j (length n.transitions) (omega arith) (omega (arith, before_all))

-- worked: over the sizes 2, 3 and 4 the number 17 has the colours 1, 1, 1, and these have the number 17
seventeen : (digits (2 ∷ 3 ∷ 4 ∷ []) 17 ≡ 1 ∷ 1 ∷ 1 ∷ []) × (number (2 ∷ 3 ∷ 4 ∷ []) (1 ∷ 1 ∷ 1 ∷ []) ≡ 17)
unfolding digits number
seventeen = (refl, refl)
