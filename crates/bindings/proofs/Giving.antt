-- The colours that an order names, given to a transition's variables one by one, and the number of the binding. Assumes nothing.
use Rattle.std.specs.Prelude.{◌+◌, ◌*◌, ◌&&◌, ◌∷◌, if◌then◌else◌, Option, Some, None}
use mathlib.Core.Path.{◌≡◌, refl, sym, ap, ap₂, subst, ◌∙◌}
use mathlib.Core.Logic.{⊎_elim}
use Prim.Native.Nat.{◌≤◌, ◌<◌, ◌^◌}
use native.Mathlib.Omega.{arith}
use native.Mathlib.Numerals.{add-one}
use native.Mathlib.Nat.{eq-or-lt_of_le, mul-one, mul_assoc, add-mul, suc-mul, mul-le-mul, pow-suc, pow-le-pow_right}
use borrow.Author.Tests.{ltb-true, ltb-false, eq-eqb, ne_eqb}
use lib.ListN.{set, length-map, length-drop, drop_of_length-le}
use lib.Seq.{get_or-set_same, get_or-set_other, get_or-take, get_or-drop, drop-cons, length-take-le, ext_get_or}
use Rattle.reading.specs.Basics.{ℕ, suc, Bool, true, false, List, [], length, get_or, take, drop, ltb, eqb, every, product}
use Rattle.reading.proofs.Lists.{Apart}
use Rattle.net.specs.Net.{Net}
use Rattle.net_file.specs.Limits.{Limits}
use Rattle.net_file.specs.Formed.{Formed}
use Rattle.bindings.specs.Orders.{fits}
use Rattle.bindings.specs.internal.Bindings.{Binds, binding, numbered}
use Rattle.bindings.specs.internal.Numbers.{digits, number}
use Rattle.bindings.specs.internal.SlotSteps.{Given, GivenOne}
use Rattle.plan.specs.declared.own.Own.{Own}
use Rattle.plan.specs.internal.Layout.{OwnTold}
use Rattle.bindings.proofs.Digits.{number-below, digits_number, number_front}
use Rattle.bindings.proofs.NamedOrders.{fits_padded}
use Rattle.bindings.proofs.Owning.{colours_in, theirs, their_sizes, theirs_apart, sizes_are, held_binds, SlotHeld, few_theirs, SlotTold, slot_none, slot_some}
use Rattle.bindings.proofs.Walking.{set_held}

-- the colours before k fit, their number is index, and the variables before k have them
pub record Giving (variables sizes colours env : List ℕ) (index k : ℕ) : Type 0 where
  pub fit : fits sizes colours ≡ fits (drop k sizes) (drop k colours)
  pub is : number sizes colours ≡ index * product (drop k sizes) + number (drop k sizes) (drop k colours)
  pub held : (j : ℕ) → j < k → j < length variables → get_or (colours_in env variables) j 0 ≡ get_or colours j 0

-- a number told where a test is true
told_where : (b : Bool) {x next : ℕ} → Some next ≡ (if b then Some x else None) → (b ≡ true) × (next ≡ x)
told_where true is = (refl, cc)
told_where false is = absurd cc

none_where : (b : Bool) (x : ℕ) → None ≡ (if b then Some x else None) → b ≡ false
none_where true x is = absurd cc
none_where false x is = refl

module _ {variables sizes colours env : List ℕ} {index k colour : ℕ} (here : Giving variables sizes colours env index k)
    (is : colour ≡ get_or colours k 0) (byte : k < length colours) where
  next : drop k colours ≡ colour ∷ drop (k + 1) colours
  next = drop-cons colours k 0 byte ∙ ap₂ ◌∷◌ (sym is) (ap (λ j. drop j colours) (sym (add-one k)))

  -- a slot that is not used
  module _ (past : length sizes ≤ k) where
    gives_none : fits (drop k sizes) (drop k colours) ≡ eqb 0 colour && fits (drop (k + 1) sizes) (drop (k + 1) colours)
    unfolding fits every
    gives_none = rw (next, drop_of_length-le sizes past, drop_of_length-le sizes (let h : length sizes ≤ k + 1 = omega arith in h))

    same_number : index * product (drop k sizes) + number (drop k sizes) (drop k colours) ≡ index * product (drop (k + 1) sizes) + number (drop (k + 1) sizes) (drop (k + 1) colours)
    unfolding number
    same_number = rw (drop_of_length-le sizes past, drop_of_length-le sizes (let h : length sizes ≤ k + 1 = omega arith in h))

    unused_goes : {after : List ℕ} {so_far : ℕ} → length variables ≤ k → Given None colour index env after (Some so_far) → Giving variables sizes colours after so_far (k + 1)
    unused_goes few given =
        let (some, same) = told_where (ltb colour 1) given.0 in
        let zero_is = ltb-true colour 1 some in
        let q : 0 ≡ colour = omega arith in
        rw (given.1, same) (record { fit = here.fit ∙ gives_none ∙ rw (eq-eqb 0 colour q); is = here.is ∙ same_number; held = λ j less lt. here.held j (omega arith) lt })

    unused_fails : {after : List ℕ} → Given None colour index env after None → fits sizes colours ≡ false
    unused_fails given =
        let some = ltb-false colour 1 (none_where (ltb colour 1) index given.0) in
        here.fit ∙ gives_none ∙ rw (ne_eqb 0 colour (λ q. omega arith))

  -- one that holds a variable
  module _ {own : Own} (sized : length sizes ≡ length variables) (holds : SlotHeld variables sizes k own) where
    first : drop k sizes ≡ own.size ∷ drop (k + 1) sizes
    first = drop-cons sizes k 0 (omega (arith, holds.inside)) ∙ ap₂ ◌∷◌ (sym holds.size) (ap (λ j. drop j sizes) (sym (add-one k)))

    gives_one : fits (drop k sizes) (drop k colours) ≡ ltb colour own.size && fits (drop (k + 1) sizes) (drop (k + 1) colours)
    unfolding fits
    gives_one = rw (next, first)

    numbers_one : number sizes colours ≡ (index * own.size + colour) * product (drop (k + 1) sizes) + number (drop (k + 1) sizes) (drop (k + 1) colours)
    unfolding number
    numbers_one =
        let rest : ℕ = product (drop (k + 1) sizes) in
        let was : index * product (drop k sizes) + number (drop k sizes) (drop k colours) ≡ index * (own.size * rest) + (colour * rest + number (drop (k + 1) sizes) (drop (k + 1) colours)) =
        rw (next, first) in
        omega (arith, here.is, mul_assoc index own.size rest, add-mul (index * own.size) colour rest)

    used_goes : {after : List ℕ} {so_far : ℕ} → Apart (λ v. v) variables → GivenOne own colour index env after (Some so_far) → Giving variables sizes colours after so_far (k + 1)
    used_goes {after} apart given =
        let (less, same) = told_where (ltb colour own.size) given.is in
        let inside = holds.inside in
        let colours_are : colours_in after variables ≡ set (colours_in env variables) k colour =
        rw (given.stored (ltb-true colour own.size less), holds.variable) (set_held env k colour apart inside (omega (arith, holds.variable, own.few_variables, given.room))) in
        let wide : k < length (colours_in env variables) = rw length-map inside in
        rw same (record {
          fit = here.fit ∙ gives_one ∙ rw less;
          is = numbers_one;
          held = λ j before lt. ap (λ l. get_or l j 0) colours_are ∙ ⊎_elim
              (λ s. rw s (get_or-set_same (colours_in env variables) k colour 0 wide ∙ is))
              (λ s. get_or-set_other (colours_in env variables) k j colour 0 (λ q. omega arith) ∙ here.held j (omega arith) lt)
              (eq-or-lt_of_le (let h : j ≤ k = omega arith in h));
        })

    used_fails : {after : List ℕ} → GivenOne own colour index env after None → fits sizes colours ≡ false
    used_fails given = here.fit ∙ gives_one ∙ rw (none_where (ltb colour own.size) (index * own.size + colour) given.is)

-- ---- by the table
-- the number so far is small
module _ {index : ℕ} (k : ℕ) (small : index < 256 ^ k) where
  small_number : {size c : ℕ} → size ≤ 256 → c < size → index * size + c < 256 ^ (k + 1)
  small_number {size} few less =
      let grown : suc index * size ≤ 256 ^ k * 256 = mul-le-mul small few in
      let power : 256 ^ (k + 1) ≡ 256 ^ k * 256 = rw (add-one k) (pow-suc 256 k) in
      omega (arith, suc-mul index size)

  pub give_small : {so_far : ℕ} (slot colour : ℕ) (env after : List ℕ) (own : Option Own) → OwnTold slot own → Given own colour index env after (Some so_far) → so_far < 256 ^ (k + 1)
  give_small slot colour env after None told given =
      let (some, same) = told_where (ltb colour 1) given.0 in
      let power : 256 ^ (k + 1) ≡ 256 ^ k * 256 = rw (add-one k) (pow-suc 256 k) in
      omega arith
  give_small slot colour env after (Some own) told given =
      let (less, same) = told_where (ltb colour own.size) given.is in
      rw same (small_number (omega (arith, told.1)) (ltb-true colour own.size less))

pub fits-number : {index : ℕ} (k : ℕ) → index < 256 ^ k → k ≤ 4 → index < 4294967296
fits-number k small few = let most : 256 ^ k ≤ 4294967296 = pow-le-pow_right {n = 256} (omega arith) few in omega arith

module _ (n : Net) (t : ℕ) (order : List ℕ) (six : length order ≡ 6) (l : Limits n) (lt : t < length n.transitions) where
  abbrev named : List ℕ
  named = drop 2 order

  four : length named ≡ 4
  four = omega (arith, length-drop 2 order)

  module _ {env : List ℕ} {index k colour : ℕ} (inside : k < 4) (byte : colour ≡ get_or order (2 + k) 0) (here : Giving (theirs n t) (their_sizes n t) named env index k) where
    colour_is : colour ≡ get_or named k 0
    colour_is = byte ∙ sym (get_or-drop 2 order k 0)

    there_is : k < length named
    there_is = omega (arith, four)

    pub give_goes : {after : List ℕ} {so_far : ℕ} (own : Option Own) → SlotTold n t k own → Given own colour index env after (Some so_far) → Giving (theirs n t) (their_sizes n t) named after so_far (k + 1)
    give_goes None told given = let le = slot_none l lt k told in unused_goes here colour_is there_is (omega (arith, sizes_are n t)) le given
    give_goes (Some own) told given = used_goes here colour_is there_is (sizes_are n t) (slot_some l lt k own told) (theirs_apart n t) given

    pub give_fails : (after : List ℕ) (own : Option Own) → SlotTold n t k own → Given own colour index env after None → fits (their_sizes n t) named ≡ false
    give_fails after None told given = let le = slot_none l lt k told in unused_fails here colour_is there_is (omega (arith, sizes_are n t)) given
    give_fails after (Some own) told given = used_fails here colour_is there_is (sizes_are n t) (slot_some l lt k own told) given

  -- after the last slot all fit, the number is theirs, and the variables have them
  module _ {env : List ℕ} {index k : ℕ} (all : 4 ≤ k) (here : Giving (theirs n t) (their_sizes n t) named env index k) where
    no_sizes : drop k (their_sizes n t) ≡ []
    no_sizes = drop_of_length-le (their_sizes n t) (let h : length (their_sizes n t) ≤ k = omega (arith, few_theirs l lt) in h)

    pub give_fits : fits (their_sizes n t) named ≡ true
    unfolding fits every
    give_fits = here.fit ∙ rw (no_sizes, drop_of_length-le named (let h : length named ≤ k = omega (arith, four) in h))

    number_is : number (their_sizes n t) named ≡ index
    unfolding number
    number_is = here.is ∙ rw no_sizes (omega (arith, mul-one index))

    pub give_number : (index < product (their_sizes n t)) × (digits (their_sizes n t) index ≡ take (length (their_sizes n t)) named)
    give_number =
        let fit = (fits_padded (their_sizes n t) named (length named) give_fits (omega arith)).0 in
        let front = number_front (their_sizes n t) named in
        (rw (← number_is, ← front) (number-below fit), rw (← number_is, ← front) (digits_number fit))

    pub give_binds : Formed n → Binds n (numbered n t index) env
    give_binds formed =
        let most = few_theirs l lt in
        let as_many : length (colours_in env (theirs n t)) ≡ length (theirs n t) = length-map (theirs n t) (λ v. get_or env v 0) in
        let front : length (take (length (their_sizes n t)) named) ≡ length (their_sizes n t) = length-take-le (length (their_sizes n t)) named (omega (arith, four)) in
        let e : colours_in env (theirs n t) ≡ take (length (their_sizes n t)) named = ext_get_or 0 (colours_in env (theirs n t)) (take (length (their_sizes n t)) named)
        (as_many ∙ sym (sizes_are n t) ∙ sym front)
        (λ j less. here.held j (omega (arith, sizes_are n t)) (omega arith) ∙ sym (get_or-take (length (their_sizes n t)) named j 0 (omega (arith, sizes_are n t)))) in
        subst (λ colours. Binds n (binding t colours) env) (e ∙ sym give_number.1) (held_binds n t env formed lt)
