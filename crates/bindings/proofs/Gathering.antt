-- The colours of a binding by its number, slot by slot, from the last one down. Assumes nothing.
use Rattle.std.specs.Prelude.{◌+◌, ◌*◌, ◌/◌, ◌%◌, ◌∷◌, ◌++◌, Option, Some, None}
use mathlib.Core.Path.{◌≡◌, refl, sym, ap, ap₂, ◌∙◌}
use Prim.Native.Nat.{◌≤◌, ◌<◌, ◌-◌}
use native.Mathlib.Omega.{arith}
use native.Mathlib.Numerals.{add-one}
use native.Mathlib.Nat.{div-one, mod-one, div-div-eq-div-mul, mul_comm}
use lib.ListN.{set, drop_of_length-le}
use lib.Seq.{drop-cons}
use Rattle.std.proofs.lemmas.List.{drop-set}
use Rattle.reading.specs.Basics.{ℕ, zero, suc, List, [], length, take, drop, product}
use Rattle.net.specs.Net.{Net}
use Rattle.net_file.specs.Limits.{Limits}
use Rattle.plan.specs.declared.own.Own.{Own}
use Rattle.bindings.specs.internal.Numbers.{digits}
use Rattle.bindings.specs.internal.SlotSteps.{colours_at}
use Rattle.bindings.proofs.Owning.{their_sizes, sizes_are, few_theirs, SlotTold, slot_none, slot_some}

-- ---- over a list of sizes
-- four zeros
abbrev zeros : List ℕ
zeros = 0 ∷ 0 ∷ 0 ∷ 0 ∷ []

-- these colours are those of number i from slot k on, with zeros behind them
pub record Gathering (sizes : List ℕ) (i k : ℕ) (colours : List ℕ) (left : ℕ) : Type 0 where
  pub rest : left ≡ i / product (drop k sizes)
  pub are : take (4 - k) (digits (drop k sizes) i ++ zeros) ≡ colours

-- one zero more
one_zero : (m : ℕ) → m < 4 → take (suc m) zeros ≡ 0 ∷ take m zeros
one_zero zero lt = refl
one_zero (suc zero) lt = refl
one_zero (suc (suc zero)) lt = refl
one_zero (suc (suc (suc zero))) lt = refl
one_zero (suc (suc (suc (suc m)))) lt = absurd (omega arith)

module _ {sizes : List ℕ} {i k : ℕ} {colours : List ℕ} {left : ℕ} (lt : k < 4) (here : Gathering sizes i (k + 1) colours left) where
  one_more : 4 - k ≡ suc (4 - (k + 1))
  one_more = omega arith

  -- a slot that is not used
  gather_none : length sizes ≤ k → Gathering sizes i k (0 ∷ colours) left
  unfolding digits
  gather_none le =
      let none : drop k sizes ≡ [] = drop_of_length-le sizes le in
      let after : drop (k + 1) sizes ≡ [] = drop_of_length-le sizes (let h : length sizes ≤ k + 1 = omega arith in h) in
      let are : take (4 - (k + 1)) zeros ≡ colours = rw after at here.are in
      record { rest = rw none (rw after at here.rest); are = rw (none, one_more) (one_zero (4 - (k + 1)) (omega arith) ∙ ap (λ l. 0 ∷ l) are) }

  -- one that holds a variable
  gather_one : (size : ℕ) → drop k sizes ≡ size ∷ drop (k + 1) sizes → Gathering sizes i k (left % size ∷ colours) (left / size)
  unfolding digits
  gather_one size is =
      let behind : ℕ = product (drop (k + 1) sizes) in
      let parted : left / size ≡ i / (size * behind) = ap (λ y. y / size) here.rest ∙ div-div-eq-div-mul i behind size ∙ ap (λ y. i / y) (mul_comm behind size) in
      record { rest = rw is parted; are = rw (is, one_more) (ap₂ (λ x l. x ∷ l) (ap (λ y. y % size) (sym here.rest)) here.are) }

-- ---- by the table
module _ (n : Net) (t i : ℕ) (l : Limits n) (lt : t < length n.transitions) where
  -- no slot yet
  pub gather_begins : Gathering (their_sizes n t) i 4 [] i
  unfolding digits
  gather_begins =
      let none : drop 4 (their_sizes n t) ≡ [] = drop_of_length-le (their_sizes n t) (few_theirs l lt) in
      record { rest = rw none (sym (div-one i)); are = refl }

  -- one slot more
  pub gather_goes : {k left size : ℕ} (colours : List ℕ) (own : Option Own) → k < 4 → length colours ≡ 4 → SlotTold n t k own → size ≡ colours_at own
      → Gathering (their_sizes n t) i (k + 1) (drop (k + 1) colours) left → Gathering (their_sizes n t) i k (drop k (set colours k (left % size))) (left / size)
  gather_goes {k} {left} {size} colours None inside four told all here =
      let past = slot_none l lt k told in
      rw (drop-set colours k (left % size) (omega arith), all, mod-one left, div-one left) (gather_none inside here (omega (arith, sizes_are n t)))
  gather_goes {k} {left} {size} colours (Some own) inside four told all here =
      let held = slot_some l lt k own told in
      let whole : drop k (their_sizes n t) ≡ own.size ∷ drop (k + 1) (their_sizes n t) =
      drop-cons (their_sizes n t) k 0 (omega (arith, held.inside, sizes_are n t)) ∙ ap₂ (λ x j. x ∷ drop j (their_sizes n t)) (sym held.size) (sym (add-one k)) in
      rw (drop-set colours k (left % size) (omega arith), all) (gather_one inside here own.size whole)
