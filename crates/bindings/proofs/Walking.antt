-- From a transition's binding to the next, or on by so many: the last variable changes fastest, and one that had its last colour begins anew. Assumes nothing.
use Rattle.std.specs.Prelude.{◌+◌, ◌*◌, ◌/◌, ◌%◌, ◌∷◌, Option, Some, None}
use mathlib.Core.Path.{◌≡◌, refl, sym, ap, ap₂, subst, ◌∙◌}
use Prim.Native.Nat.{◌≤◌, ◌<◌, ◌-◌}
use native.Mathlib.Omega.{arith}
use native.Mathlib.Numerals.{add-one}
use native.Mathlib.Nat.{add-mul, zero-mul, one-mul, suc-mul, mul_assoc, mod-lt, mod-add-div'}
use borrow.Author.Tests.{ltb-true, ltb-false}
use lib.ListN.{set, drop_of_length-le}
use lib.Seq.{get_or-set_same, get_or-set_other, drop-cons}
use Rattle.reading.specs.Basics.{ℕ, zero, suc, Bool, true, false, List, [], length, get_or, drop, ltb, product}
use Rattle.reading.proofs.Lists.{here, Apart, alone, new, map_same}
use Rattle.net.specs.Net.{Net}
use Rattle.net_file.specs.Limits.{Limits}
use Rattle.net_file.specs.Formed.{Formed}
use Rattle.bindings.specs.internal.Numbers.{digits, number}
use Rattle.prepared.specs.internal.Drawn.{DrawnTransition, its_net, Stands}
use Rattle.prepared.proofs.Known.{its_limits}
use Rattle.bindings.specs.internal.Bindings.{Binds, binding, numbered, its_sizes, BindsIts}
use Rattle.bindings.specs.internal.SlotSteps.{Turned, TurnedOne, Skipped}
use Rattle.plan.specs.declared.own.Own.{Own}
use Rattle.bindings.proofs.Bindings.{Fit, none, more, fit_length}
use Rattle.bindings.proofs.Digits.{digits-length, digits_fit, digits_number, number_digits}
use Rattle.reading.proofs.Clash.{clash}
use Rattle.bindings.proofs.Owning.{colours_in, theirs, their_sizes, theirs_apart, sizes_are, binds_held, held_binds, SlotHeld, map_at, in_get_d, few_theirs, SlotTold, slot_none, slot_some}

-- ---- one colour changed
-- the slot of variable k is set: its colour is
pub set_held : (env : List ℕ) {variables : List ℕ} (k c : ℕ) → Apart (λ v. v) variables → k < length variables → get_or variables k 0 < length env
    → colours_in (set env (get_or variables k 0) c) variables ≡ set (colours_in env variables) k c
set_held env k c alone lt room = absurd (omega arith)
set_held env zero c (new {a = w} {l = variables} d p) lt room =
    ap₂ ◌∷◌ (get_or-set_same env w c 0 room) (map_same (λ v. get_or (set env w c) v 0) (λ v. get_or env v 0) variables (λ v m. get_or-set_other env w v c 0 (λ e. d v m (sym e))))
set_held env (suc k) c (new {a = w} {l = variables} d p) lt room =
    let less : k < length variables = omega arith in
    ap₂ ◌∷◌ (get_or-set_other env (get_or variables k 0) w c 0 (λ e. d (get_or variables k 0) (in_get_d variables k less) e)) (set_held env k c p less room)

-- the number, by what the colours after it count
number-set : (sizes colours : List ℕ) (k c : ℕ) → length colours ≡ length sizes → k < length sizes
    → number sizes (set colours k c) + get_or colours k 0 * product (drop (suc k) sizes) ≡ number sizes colours + c * product (drop (suc k) sizes)
unfolding number
number-set [] colours k c e lt = absurd (omega arith)
number-set (size ∷ sizes) [] k c e lt = absurd (omega arith)
number-set (size ∷ sizes) (x ∷ colours) zero c e lt = omega arith
number-set (size ∷ sizes) (x ∷ colours) (suc k) c e lt = let h = number-set sizes colours k c (omega arith) (omega arith) in omega arith

fit_set : {sizes colours : List ℕ} (k c : ℕ) → Fit sizes colours → c < get_or sizes k 0 → Fit sizes (set colours k c)
fit_set k c none lt = none
fit_set zero c (more less f) lt = more lt f
fit_set (suc k) c (more less f) lt = more less (fit_set k c f lt)

fit_at : {sizes colours : List ℕ} (k : ℕ) → Fit sizes colours → k < length sizes → get_or colours k 0 < get_or sizes k 0
fit_at k none lt = absurd (omega arith)
fit_at zero (more less f) lt = less
fit_at (suc k) (more less f) lt = fit_at k f (omega arith)

-- ---- the walk
-- the variables from k on went on: what those after them count is still to be added so many times
pub record Walking (variables sizes env : List ℕ) (j rest k : ℕ) : Type 0 where
  pub fit : Fit sizes (colours_in env variables)
  pub is : number sizes (colours_in env variables) + rest * product (drop k sizes) ≡ j

module _ {variables sizes env : List ℕ} {j rest k : ℕ} (here : Walking variables sizes env j rest (k + 1)) where
  -- a slot that is not used
  walks_on : length sizes ≤ k → Walking variables sizes env j rest k
  walks_on le =
      let same : drop (k + 1) sizes ≡ drop k sizes = drop_of_length-le sizes (let h : length sizes ≤ k + 1 = omega arith in h) ∙ sym (drop_of_length-le sizes le) in
      record { fit = here.fit; is = rw (← same) here.is }

  module _ {own : Own} (room : length env ≡ 32) (apart : Apart (λ v. v) variables) (sized : length sizes ≡ length variables) (held : SlotHeld variables sizes k own) where
    abbrev v : ℕ
    v = get_or variables k 0

    abbrev colour : ℕ
    colour = get_or env v 0

    abbrev size : ℕ
    size = get_or sizes k 0

    abbrev after_it : ℕ
    after_it = product (drop (k + 1) sizes)

    colour_at : get_or (colours_in env variables) k 0 ≡ colour
    colour_at = map_at (λ v. get_or env v 0) 0 variables k held.inside

    -- its colour is one of its set
    colour-below : colour < size
    colour-below = omega (arith, fit_at k here.fit (let h : k < length sizes = omega (arith, held.inside) in h), colour_at)

    set_it : (c : ℕ) → colours_in (set env v c) variables ≡ set (colours_in env variables) k c
    set_it c = set_held env k c apart held.inside (omega (arith, held.variable, own.few_variables))

    counts_it : (c : ℕ) → number sizes (colours_in (set env v c) variables) + colour * after_it ≡ number sizes (colours_in env variables) + c * after_it
    counts_it c = rw (set_it c, ← colour_at, add-one k) (number-set sizes (colours_in env variables) k c (fit_length here.fit) (omega (arith, held.inside)))

    whole : product (drop k sizes) ≡ size * after_it
    whole = ap product (drop-cons sizes k 0 (omega (arith, held.inside))) ∙ rw (add-one k)

    -- the variable went on, and so many times round its set
    walks_to : (c left : ℕ) → c < size → c + left * size ≡ colour + rest → Walking variables sizes (set env v c) j left k
    walks_to c left lt e =
        let round : left * product (drop k sizes) ≡ left * size * after_it = ap (λ p. left * p) whole ∙ sym (mul_assoc left size after_it) in
        let sum : (c + left * size) * after_it ≡ (colour + rest) * after_it = ap (λ x. x * after_it) e in
        record {
          fit = rw (set_it c) (fit_set k c here.fit lt);
          is = omega (arith, counts_it c, here.is, round, sum, add-mul c (left * size) after_it, add-mul colour rest after_it);
        }

-- ---- by the table
module _ (n : Net) (t j : ℕ) where
  -- nothing is left: the colours fit, and have that number
  pub walk_is : {env : List ℕ} {rest k : ℕ} → Formed n → t < length n.transitions → rest < 1 → Walking (theirs n t) (their_sizes n t) env j rest k → Binds n (numbered n t j) env
  walk_is {env} {rest} {k} formed lt spent here =
      let z : rest ≡ 0 = omega arith in
      let no : rest * product (drop k (their_sizes n t)) ≡ 0 = rw z (zero-mul (product (drop k (their_sizes n t)))) in
      let is : number (their_sizes n t) (colours_in env (theirs n t)) ≡ j = omega (arith, here.is) in
      let e : colours_in env (theirs n t) ≡ digits (their_sizes n t) j = sym (digits_number here.fit) ∙ ap (digits (their_sizes n t)) is in
      subst (λ colours. Binds n (binding t colours) env) e (held_binds n t env formed lt)

  -- or all variables went on: no whole round of all is left
  pub walk_ends : {env : List ℕ} {rest k : ℕ} → Formed n → t < length n.transitions → j < product (their_sizes n t) → k ≤ 0 → Walking (theirs n t) (their_sizes n t) env j rest k → Binds n (numbered n t j) env
  walk_ends {rest = zero} formed lt less le here = walk_is formed lt (omega arith) here
  walk_ends {env = env} {rest = suc rest} {k = k} formed lt less le here =
      let e : k ≡ 0 = omega arith in
      let h : number (their_sizes n t) (colours_in env (theirs n t)) + suc rest * product (their_sizes n t) ≡ j = rw e at here.is in
      absurd (omega (arith, suc-mul rest (product (their_sizes n t))))

  module _ (l : Limits n) (lt : t < length n.transitions) where
    pub walk_begins : (env : List ℕ) (i many : ℕ) → i + many ≡ j → j < product (their_sizes n t) → Binds n (numbered n t i) env → Walking (theirs n t) (their_sizes n t) env j many 4
    walk_begins env i many is less b =
        let held = binds_held n t env (digits (their_sizes n t) i) (digits-length (their_sizes n t) i ∙ sizes_are n t) b in
        let counts : number (their_sizes n t) (colours_in env (theirs n t)) ≡ i = rw held (number_digits (their_sizes n t) i (omega arith)) in
        let none : many * product (drop 4 (their_sizes n t)) ≡ many * 1 = ap (λ p. many * product p) (drop_of_length-le (their_sizes n t) (few_theirs l lt)) in
        record { fit = rw held (digits_fit (their_sizes n t) i (omega arith)); is = omega arith }

    module _ {env : List ℕ} {k rest : ℕ} (some : 0 < k) (here : Walking (theirs n t) (their_sizes n t) env j rest k) where
      kept : Walking (theirs n t) (their_sizes n t) env j rest (k - 1 + 1)
      kept = let e : k - 1 + 1 ≡ k = omega arith in rw e here

      -- a slot that is not used
      passes : {after : List ℕ} → SlotTold n t (k - 1) None → after ≡ env → Walking (theirs n t) (their_sizes n t) after j rest (k - 1)
      passes told same = rw same (walks_on kept (omega (arith, slot_none l lt (k - 1) told, sizes_are n t)))

      -- one that holds a variable
      module _ {own : Own} (room : length env ≡ 32) (held : SlotHeld (theirs n t) (their_sizes n t) (k - 1) own) where
        below_size : get_or env own.variable 0 < own.size
        below_size = rw (held.variable, held.size) (colour-below kept room (theirs_apart n t) (sizes_are n t) held)

        goes : {after : List ℕ} (c left : ℕ) → after ≡ set env own.variable c → c < own.size → c + left * own.size ≡ get_or env own.variable 0 + rest
            → Walking (theirs n t) (their_sizes n t) after j left (k - 1)
        goes c left set_to less e =
            rw (set_to, held.variable) (walks_to kept room (theirs_apart n t) (sizes_are n t) held c left (rw held.size at less) (rw (held.variable, held.size) at e))

      -- by one colour: it begins anew, and the one before it goes on too; or it has its next
      pub walk_turns : rest ≡ 1 → {after : List ℕ} {r : Bool} (own : Option Own) → SlotTold n t (k - 1) own → Turned own env after r → r ≡ true → Walking (theirs n t) (their_sizes n t) after j rest (k - 1)
      walk_turns one None told turned e = passes told turned.1
      walk_turns one {after} {r} (Some own) told turned e = go turned (slot_some l lt (k - 1) own told) (ltb (get_or env own.variable 0 + 1) own.size) refl
        where
          go : TurnedOne own env after r → SlotHeld (theirs n t) (their_sizes n t) (k - 1) own → (b : Bool) → ltb (get_or env own.variable 0 + 1) own.size ≡ b → Walking (theirs n t) (their_sizes n t) after j rest (k - 1)
          go turned held true f = clash refl e (turned.next (ltb-true _ _ f)).0
          go turned held false f =
              let le = ltb-false (get_or env own.variable 0 + 1) own.size f in
              let less = below_size turned.room held in
              let q : rest * own.size ≡ own.size = ap (λ x. x * own.size) one ∙ one-mul own.size in
              goes turned.room held 0 rest (turned.last le).1 (omega arith) (omega arith)

      pub walk_stops : rest ≡ 1 → {after : List ℕ} {r : Bool} (own : Option Own) → SlotTold n t (k - 1) own → Turned own env after r → r ≡ false → Walking (theirs n t) (their_sizes n t) after j 0 (k - 1)
      walk_stops one None told turned e = clash refl turned.0 e
      walk_stops one {after} {r} (Some own) told turned e = go turned (slot_some l lt (k - 1) own told) (ltb (get_or env own.variable 0 + 1) own.size) refl
        where
          go : TurnedOne own env after r → SlotHeld (theirs n t) (their_sizes n t) (k - 1) own → (b : Bool) → ltb (get_or env own.variable 0 + 1) own.size ≡ b → Walking (theirs n t) (their_sizes n t) after j 0 (k - 1)
          go turned held true f =
              let less = ltb-true (get_or env own.variable 0 + 1) own.size f in
              goes turned.room held (get_or env own.variable 0 + 1) 0 (turned.next less).1 less (omega (arith, zero-mul own.size))
          go turned held false f = clash refl (turned.last (ltb-false _ _ f)).0 e

      -- by so many
      pub walk_skips : {after : List ℕ} {r : ℕ} (own : Option Own) → SlotTold n t (k - 1) own → Skipped own rest env after r → Walking (theirs n t) (their_sizes n t) after j r (k - 1)
      walk_skips None told skipped = rw skipped.0 (passes told skipped.1)
      walk_skips (Some own) told skipped =
          let held = slot_some l lt (k - 1) own told in
          let less = below_size skipped.room held in
          let sum : ℕ = get_or env own.variable 0 + rest in
          rw (skipped.rounds less) (goes skipped.room held (sum % own.size) (sum / own.size) skipped.stored (mod-lt sum (omega (arith, own.sized))) (mod-add-div' sum own.size))

-- ---- of a transition of a drawing
-- a list that had the colours of a binding is on the walk to the one so many further on; after the first step the transition is known to stand
abbrev pub OnTheWay : DrawnTransition → List ℕ → List ℕ → ℕ → ℕ → ℕ → Type 0
OnTheWay t before env many rest k =
    (k < 4 → Stands t) × ((i : ℕ) → Stands t → i + many < product (its_sizes t) → BindsIts t i before → Walking (theirs (its_net t) t.number) (its_sizes t) env (i + many) rest k)

pub sets_out : (t : DrawnTransition) (env : List ℕ) (many : ℕ) → OnTheWay t env env many many 4
sets_out t env many = (λ lt. absurd (omega arith), λ i stands less b. walk_begins (its_net t) t.number (i + many) (its_limits stands.0) stands.1 env i many refl less b)
