-- The members of a set of bits, how many they are, and what is multiplied over them. Assumes nothing.
use Rattle.std.specs.Prelude.{◌+◌, ◌*◌, ◌/◌, ◌%◌, ◌∷◌, if◌then◌else◌}
use mathlib.Core.Path.{◌≡◌, refl, sym, ap, ap₂, ◌∙◌, subst}
use mathlib.Core.Logic.{⊎_elim}
use Prim.Native.Nat.{◌-◌, ◌^◌, ◌<◌, ◌≤◌}
use native.Mathlib.Nat.{not-suc-le-zero, le_of_suc-le-suc, eq-or-lt_of_le, le_trans, div-eq_of_lt, add-mul-div_right, two-pow-succ, mul-le-mul, pow-le-pow_right, mul_assoc, mul-one, pow-suc}
use native.Mathlib.Numerals.{add-one}
use native.Mathlib.Omega.{arith}
use lib.Pow.{pow-add, pow_pos, pow_mono, high}
use Rattle.reading.specs.Basics.{ℕ, zero, suc, Bool, true, false, List, [], map, length, get_or, eqb, with, numbers_from, below, keep, product}
use Rattle.net.specs.Net.{Net, size_of}
use Rattle.net.specs.internal.ReaderEnums.{bits, member, size_in}
use Rattle.net.proofs.Answers.{bits_lt}
use Rattle.std.specs.List.{count_by, range_with_len}
use Rattle.std.proofs.lemmas.List.Recursion.{is_count_by}

-- ---- members of a set of bits
-- a higher bit does not change a lower one
higher : (x d v : ℕ) → member (x + 2 ^ (suc d + v)) v ≡ member x v
higher x d v =
    ap (λ k. eqb (k % 2) 1) (ap (λ m. (x + m) / 2 ^ v) (pow-add 2 (suc d) v) ∙ add-mul-div_right x (2 ^ suc d) (pow_pos v)) ∙ ap (λ k. eqb k 1) (even (x / 2 ^ v))
  where
    even : (y : ℕ) → (y + 2 ^ suc d) % 2 ≡ y % 2
    even y = omega (arith, two-pow-succ d)

-- no bit from n on
pub past : (s n v : ℕ) → s < 2 ^ n → n ≤ v → member s v ≡ false
past s n v lt le = let h : s < 2 ^ v = omega (arith, pow_mono le) in ap (λ k. eqb (k % 2) 1) (div-eq_of_lt h)

-- a test below n is the bit of it
module _ (p : ℕ → Bool) where
  -- the highest bit, and those under it
  top : (n : ℕ) (t : Bool) → member (bits p n + (if t then 2 ^ n else 0)) n ≡ t
  top n true = ap (λ k. eqb (k % 2) 1) (ap (λ m. m / 2 ^ n) up ∙ high 1 n (bits_lt p n))
    where
      up : bits p n + 2 ^ n ≡ 1 * 2 ^ n + bits p n
      up = omega arith
  top n false = past (bits p n + 0) n n (omega (arith, bits_lt p n)) (omega arith)

  under : (n v : ℕ) (t : Bool) → v < n → member (bits p n + (if t then 2 ^ n else 0)) v ≡ member (bits p n) v
  under n v true lt = subst (λ k. member (bits p n + 2 ^ k) v ≡ member (bits p n) v) e (higher (bits p n) (n - v - 1) v)
    where
      e : suc (n - v - 1) + v ≡ n
      e = omega arith
  under n v false lt = let e : bits p n + 0 ≡ bits p n = omega arith in ap (λ k. member k v) e

  pub member-bits : (n v : ℕ) → v < n → member (bits p n) v ≡ p v
  unfolding bits
  member-bits zero v lt = absurd (not-suc-le-zero lt)
  member-bits (suc n) v lt = ⊎_elim
      (λ e. subst (λ k. member (bits p n + (if p n then 2 ^ n else 0)) k ≡ p k) (sym e) (top n (p n)))
      (λ l. under n v (p n) l ∙ member-bits n v l) (eq-or-lt_of_le (le_of_suc-le-suc lt))

-- ---- what is kept of the numbers below n
-- the last of the numbers
numbers_next : (a n : ℕ) → numbers_from a (suc n) ≡ with (numbers_from a n) (a + n)
unfolding numbers_from
numbers_next a zero = let e : a ≡ a + 0 = omega arith in ap (λ k. k ∷ []) e
numbers_next a (suc n) = let e : a + 1 + n ≡ a + suc n = omega arith in ap (λ l. a ∷ l) (numbers_next (a + 1) n ∙ ap (with (numbers_from (a + 1) n)) e)

pub below_next : (n : ℕ) → below (n + 1) ≡ with (below n) n
below_next n = let e : 0 + n ≡ n = omega arith in ap below (add-one n) ∙ numbers_next 0 n ∙ ap (with (below n)) e

-- the same tests keep the same numbers
pub keep_same : (p q : ℕ → Bool) (a n : ℕ) → ((v : ℕ) → v < a + n → p v ≡ q v) → keep p (numbers_from a n) ≡ keep q (numbers_from a n)
unfolding keep numbers_from
keep_same p q a zero h = refl
keep_same p q a (suc n) h = ap₂ (λ t l. if t then a ∷ l else l) (h a (omega arith)) (keep_same p q (a + 1) n (λ v lt. h v (omega arith)))

-- the members are the numbers of which the test holds
pub keep-bits : (p : ℕ → Bool) {s n : ℕ} → s ≡ bits p 32 → n ≤ 32 → keep (member s) (below n) ≡ keep p (below n)
keep-bits p {s} {n} e le = rw e (keep_same (member (bits p 32)) p 0 n (λ v lt. member-bits p 32 v (omega arith)))

-- one more number
module _ (p : ℕ → Bool) where
  count_with : (l : List ℕ) (a : ℕ) → length (keep p (with l a)) ≡ length (keep p l) + (if p a then 1 else 0)
  unfolding keep
  count_with [] a = go (p a)
    where
      go : (t : Bool) → length (if t then a ∷ [] else []) ≡ 0 + (if t then 1 else 0)
      go true = refl
      go false = refl
  count_with (x ∷ l) a = go (p x) (keep p (with l a)) (keep p l) (if p a then 1 else 0) (count_with l a)
    where
      go : (t : Bool) (k m : List ℕ) (b : ℕ) → length k ≡ length m + b → length (if t then x ∷ k else k) ≡ length (if t then x ∷ m else m) + b
      go true k m b e = omega arith
      go false k m b e = e

  pub count_next : (n : ℕ) → length (keep p (below (n + 1))) ≡ length (keep p (below n)) + (if p n then 1 else 0)
  count_next n = ap (λ l. length (keep p l)) (below_next n) ∙ count_with (below n) n

  -- so many numbers more
  count_far : (n d : ℕ) → length (keep p (below n)) ≤ length (keep p (below (n + d)))
  count_far n zero = let e : n + 0 ≡ n = omega arith in rw e (omega arith)
  count_far n (suc d) = let e : n + suc d ≡ n + d + 1 = omega arith in rw e (omega (arith, count_next (n + d), count_far n d))

  -- of fewer numbers fewer are kept
  pub count_grows : (m n : ℕ) → m ≤ n → length (keep p (below m)) ≤ length (keep p (below n))
  count_grows m n le = let e : m + (n - m) ≡ n = omega arith in rw e at (count_far m (n - m))

  -- what is multiplied over one more number
  product-with : (f : ℕ → ℕ) (l : List ℕ) (a : ℕ) → product (map f (keep p (with l a))) ≡ product (map f (keep p l)) * (if p a then f a else 1)
  unfolding keep
  product-with f [] a = go (p a)
    where
      go : (t : Bool) → product (map f (if t then a ∷ [] else [])) ≡ 1 * (if t then f a else 1)
      go true = omega arith
      go false = refl
  product-with f (x ∷ l) a = go (p x) (keep p (with l a)) (keep p l) (if p a then f a else 1) (product-with f l a)
    where
      go : (t : Bool) (k m : List ℕ) (b : ℕ) → product (map f k) ≡ product (map f m) * b → product (map f (if t then x ∷ k else k)) ≡ product (map f (if t then x ∷ m else m)) * b
      go true k m b e = ap (λ y. f x * y) e ∙ sym (mul_assoc (f x) (product (map f m)) b)
      go false k m b e = e

  pub product_next : (f : ℕ → ℕ) (n : ℕ) → product (map f (keep p (below (n + 1)))) ≡ product (map f (keep p (below n))) * (if p n then f n else 1)
  product_next f n = ap (λ l. product (map f (keep p l))) (below_next n) ∙ product-with f (below n) n

  -- a number that is kept, and one that is not
  pub count_takes : (n : ℕ) → true ≡ p n → length (keep p (below (n + 1))) ≡ length (keep p (below n)) + 1
  count_takes n e = count_next n ∙ ap (λ t. length (keep p (below n)) + (if t then 1 else 0)) (sym e)

  pub count_leaves : (n : ℕ) → false ≡ p n → length (keep p (below (n + 1))) ≡ length (keep p (below n))
  count_leaves n e = let q : length (keep p (below n)) + 0 ≡ length (keep p (below n)) = omega arith in count_next n ∙ ap (λ t. length (keep p (below n)) + (if t then 1 else 0)) (sym e) ∙ q

  pub product_takes : (f : ℕ → ℕ) (n : ℕ) → true ≡ p n → product (map f (keep p (below (n + 1)))) ≡ product (map f (keep p (below n))) * f n
  product_takes f n e = product_next f n ∙ ap (λ t. product (map f (keep p (below n))) * (if t then f n else 1)) (sym e)

  pub product_leaves : (f : ℕ → ℕ) (n : ℕ) → false ≡ p n → product (map f (keep p (below (n + 1)))) ≡ product (map f (keep p (below n)))
  product_leaves f n e = product_next f n ∙ ap (λ t. product (map f (keep p (below n))) * (if t then f n else 1)) (sym e) ∙ mul-one _

-- ---- what the loops keep
-- what is counted of so many numbers is what is kept of them
numbers_are : (a n : ℕ) → range_with_len a n ≡ numbers_from a n
unfolding numbers_from
numbers_are a zero = refl
numbers_are a (suc n) = ap (λ l. a ∷ l) (numbers_are (a + 1) n)

kept_more : (p : ℕ → Bool) (x : ℕ) (l : List ℕ) → length (keep p (x ∷ l)) ≡ (if p x then 1 + length (keep p l) else length (keep p l))
unfolding keep
kept_more p x l = go (p x)
  where
    go : (t : Bool) → length (if t then x ∷ keep p l else keep p l) ≡ (if t then 1 + length (keep p l) else length (keep p l))
    go true = omega arith
    go false = refl

pub counted_kept : (p : ℕ → Bool) (n : ℕ) → count_by p (range_with_len 0 n) ≡ length (keep p (below n))
unfolding keep
counted_kept p n = ap (count_by p) (numbers_are 0 n) ∙ sym (is_count_by (λ l. length (keep p l)) p refl (kept_more p) (below n))

-- so many members are counted of a set of bits
pub counted_in : (p : ℕ → Bool) {s n count : ℕ} → count ≡ count_by (member s) (range_with_len 0 n) → s ≡ bits p 32 → n ≤ 32 → count ≡ length (keep p (below n))
counted_in p {s} {n} is e le = is ∙ counted_kept (member s) n ∙ ap length (keep-bits p e le)

-- the product over those before v, each at most 255
pub record Multiplied (s : ℕ) (f : ℕ → ℕ) (total v : ℕ) : Type 0 where
  pub is : total ≡ product (map f (keep (member s) (below v)))
  pub most : total ≤ 255 ^ length (keep (member s) (below v))

-- before the first
pub product_begins : (s : ℕ) (f : ℕ → ℕ) → Multiplied s f 1 0
unfolding keep numbers_from
product_begins s f = record { is = refl; most = omega arith }

module _ {s : ℕ} {f : ℕ → ℕ} {total v : ℕ} (inv : Multiplied s f total v) where
  pub product_in : {x : ℕ} → true ≡ member s v → x ≡ f v → x ≤ 255 → Multiplied s f (total * x) (v + 1)
  product_in {x} e q le = record {
    is = ap₂ ◌*◌ inv.is q ∙ sym (product_takes (member s) f v e);
    most = subst (λ k. total * x ≤ 255 ^ k) (sym (count_takes (member s) v e)) (rw (add-one, pow-suc) (mul-le-mul inv.most le));
  }

  pub product_out : false ≡ member s v → Multiplied s f total (v + 1)
  product_out e = record {
    is = inv.is ∙ sym (product_leaves (member s) f v e);
    most = subst (λ k. total ≤ 255 ^ k) (sym (count_leaves (member s) v e)) inv.most;
  }

  -- of at most four it fits
  pub product-fits : (n : ℕ) → v ≤ n → length (keep (member s) (below n)) ≤ 4 → total ≤ 4228250625
  product-fits n le few = let h : length (keep (member s) (below v)) ≤ 4 = omega (arith, count_grows (member s) v n le) in le_trans inv.most (pow-le-pow_right {n = 255} (omega arith) h)

-- at the end it is what the net says
pub product_ends : (sizes vars : List ℕ) {s total v : ℕ} → Multiplied s (size_in sizes vars) total v → v ≡ length vars
    → (n : Net) (p : ℕ → Bool) → n.sets ≡ sizes → n.variables ≡ vars → length n.variables ≤ 32 → s ≡ bits p 32
    → total ≡ product (map (λ w. size_of n (get_or n.variables w 0)) (keep p (below (length n.variables))))
product_ends sizes vars {s} {total} inv e n p es ev le eb =
    rw (es, ev) (rw (← e) (inv.is ∙ ap (λ l. product (map (size_in sizes vars) l)) (keep-bits p eb (omega (arith, rw ev at le)))))
