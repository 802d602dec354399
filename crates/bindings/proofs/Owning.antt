-- Bindings by the table of each transition's own variables: what a slot holds, and the colours that the variables' slots hold. Assumes nothing.
use Rattle.std.specs.Prelude.{◌+◌, ◌*◌, ◌∷◌, if◌then◌else◌, Option, Some, None}
use mathlib.Core.Path.{◌≡◌, refl, sym, ap, ap₂, subst, ◌∙◌}
use mathlib.Core.List.Memᴰ
use Prim.Native.Nat.{◌≤◌, ◌<◌, ◌^◌}
use native.Mathlib.Omega.{arith}
use native.Mathlib.Numerals.{add-one}
use native.Mathlib.Nat.{zero-div, zero-mod, mul-one, mul-le-mul, le_trans, pow-suc, pow-le-pow_right}
use borrow.Author.Tests.{ltb-true, ltb-false, eqb-true, eq-eqb, ne_eqb}
use lib.ListN.{length-map, get_or-eq_default}
use lib.Seq.{take_all, take-suc}
use Rattle.reading.specs.Basics.{ℕ, zero, suc, Bool, true, false, List, [], map, length, get_or, take, ltb, eqb, replicate, below, keep, product}
use Rattle.reading.proofs.Lists.{In, here, there, in_cases, Apart, alone, new, apart_from, in_from, of_from, at_in, at_below, get_d_at}
use Rattle.net.specs.Net.{Net, size_of, sizes_of, variables_of, in_transition, no_transition, transition_at}
use Rattle.net_file.specs.Limits.{Limits}
use Rattle.net_file.specs.Formed.{Formed}
use Rattle.bindings.specs.Effect.{stands_for}
use Rattle.bindings.specs.internal.Numbers.{digits}
use Rattle.bindings.specs.internal.Bindings.{Binds, binding, numbered, its_sizes}
use Rattle.plan.specs.declared.own.Own.{Own}
use Rattle.plan.specs.internal.Layout.{own_in, slot_size, OwnTold}
use Rattle.prepared.specs.internal.TransitionVariables.{own_of}
use Rattle.prepared.specs.internal.Prepared.{Prepared}
use Rattle.prepared.specs.internal.Drawn.{DrawnTransition, its_net, IsDrawn}
use Rattle.bindings.specs.internal.SlotSteps.{colours_at}
use Rattle.bindings.proofs.Digits.{product-with}
use Rattle.bindings.proofs.Used.{used_below}
use Rattle.reading.proofs.Clash.{clash}

-- ---- what is kept of a list
module _ (p : ℕ → Bool) where
  of_keep : (l : List ℕ) {a : ℕ} → In a (keep p l) → In a l × (p a ≡ true)
  unfolding keep
  of_keep [] m = absurd (Memᴰ.not-nil m)
  of_keep (x ∷ l) {a} m = go (p x) refl (λ k. let (i, f) = of_keep l k in (there i, f)) m
    where
      go : (t : Bool) → p x ≡ t → (In a (keep p l) → In a (x ∷ l) × (p a ≡ true)) → In a (if t then x ∷ keep p l else keep p l) → In a (x ∷ l) × (p a ≡ true)
      go true e rest k = in_cases (λ q. rw q (here, e)) rest k
      go false e rest k = rest k

  in_keep : (l : List ℕ) {a : ℕ} → In a l → p a ≡ true → In a (keep p l)
  unfolding keep
  in_keep [] m e = absurd (Memᴰ.not-nil m)
  in_keep (x ∷ l) {a} m e = go (p x) refl (λ k. in_keep l k e)
    where
      go : (t : Bool) → p x ≡ t → (In a l → In a (keep p l)) → In a (if t then x ∷ keep p l else keep p l)
      go true q rest = in_cases (λ f. rw f here) (λ k. there (rest k)) m
      go false q rest = in_cases (λ f. clash (ap p f) e q) rest m

  apart_keep : {l : List ℕ} → Apart (λ a. a) l → Apart (λ a. a) (keep p l)
  unfolding keep
  apart_keep alone = alone
  apart_keep (new {a = x} {l = l} d q) = go (p x) (apart_keep q)
    where
      go : (t : Bool) → Apart (λ a. a) (keep p l) → Apart (λ a. a) (if t then x ∷ keep p l else keep p l)
      go true h = new (λ b m e. d b (of_keep l m).0 e) h
      go false h = h

-- ---- the colours that variables' slots hold
abbrev pub colours_in : List ℕ → List ℕ → List ℕ
colours_in env variables = map (λ v. get_or env v 0) variables

-- a variable stands for what its slot holds
held_stands : (env variables : List ℕ) {v : ℕ} → In v variables → stands_for variables (colours_in env variables) v ≡ get_or env v 0
unfolding stands_for
held_stands env [] m = absurd (Memᴰ.not-nil m)
held_stands env (w ∷ variables) {v} m = go (eqb v w) refl (λ k. held_stands env variables k)
  where
    go : (t : Bool) → eqb v w ≡ t → (In v variables → stands_for variables (colours_in env variables) v ≡ get_or env v 0) → (if t then get_or env w 0 else stands_for variables (colours_in env variables) v) ≡ get_or env v 0
    go true e rest = ap (λ u. get_or env u 0) (sym (eqb-true v w e))
    go false e rest = in_cases (λ q. clash refl (eq-eqb v w q) e) rest m

-- where each slot holds what its variable stands for, they hold these colours
stands_held : (env colours : List ℕ) {variables : List ℕ} → Apart (λ v. v) variables → length colours ≡ length variables
    → ((v : ℕ) → In v variables → get_or env v 0 ≡ stands_for variables colours v) → colours_in env variables ≡ colours
unfolding stands_for
stands_held env [] alone e h = refl
stands_held env (c ∷ colours) alone e h = absurd (omega arith)
stands_held env [] (new d p) e h = absurd (omega arith)
stands_held env (c ∷ colours) (new {a = w} {l = variables} d p) e h =
    ap₂ ◌∷◌ (h w here ∙ rw (eq-eqb w w refl)) (stands_held env colours p (omega arith) (λ v m. h v (there m) ∙ rw (ne_eqb v w (λ q. d v m (sym q)))))

-- ---- of a transition
module _ (n : Net) (t : ℕ) where
  abbrev pub theirs : List ℕ
  theirs = variables_of n (transition_at n t)

  abbrev pub their_sizes : List ℕ
  their_sizes = sizes_of n (transition_at n t)

  pub sizes_are : length their_sizes ≡ length theirs
  sizes_are = length-map theirs (λ v. size_of n (get_or n.variables v 0))

  pub theirs_apart : Apart (λ v. v) theirs
  unfolding variables_of
  theirs_apart = apart_keep (λ v. in_transition v (transition_at n t)) (apart_from 0 (length n.variables))

  theirs_stand : {v : ℕ} → In v theirs → (v < length n.variables) × (in_transition v (transition_at n t) ≡ true)
  unfolding variables_of
  theirs_stand m = let (i, e) = of_keep (λ v. in_transition v (transition_at n t)) (below (length n.variables)) m in (omega (arith, of_from 0 (length n.variables) i), e)

  theirs_all : (v : ℕ) → v < length n.variables → in_transition v (transition_at n t) ≡ true → In v theirs
  unfolding variables_of
  theirs_all v lt e = in_keep (λ v. in_transition v (transition_at n t)) (below (length n.variables)) (in_from 0 (length n.variables) (omega arith) (omega arith)) e

  -- the slots of a binding's variables hold its colours, and the other way round
  pub binds_held : (env colours : List ℕ) → length colours ≡ length theirs → Binds n (binding t colours) env → colours_in env theirs ≡ colours
  binds_held env colours e b = stands_held env colours theirs_apart e (λ v m. b v (theirs_stand m).1)

  pub held_binds : (env : List ℕ) → Formed n → t < length n.transitions → Binds n (binding t (colours_in env theirs)) env
  held_binds env f lt v e =
      let it = at_below n.transitions t lt in
      let at : In (transition_at n t) n.transitions = subst (λ u. In u n.transitions) (sym (get_d_at n.transitions t no_transition it.1)) (at_in n.transitions t it.1) in
      sym (held_stands env theirs (theirs_all v (used_below n f (transition_at n t) at v e) e))

-- ---- the first binding
-- all colours are 0
zero_at : (slots v : ℕ) → ◌≡◌ {A = ℕ} (get_or (replicate slots 0) v 0) 0
zero_at zero v = refl
zero_at (suc slots) zero = refl
zero_at (suc slots) (suc v) = zero_at slots v

zero_stands : (variables sizes : List ℕ) (v : ℕ) → stands_for variables (digits sizes 0) v ≡ 0
unfolding stands_for digits
zero_stands [] sizes v = refl
zero_stands (w ∷ variables) [] v = refl
zero_stands (w ∷ variables) (size ∷ sizes) v = rw (zero-div (product sizes), zero-mod size) (go (eqb v w) (zero_stands variables sizes v))
  where
    go : (t : Bool) → stands_for variables (digits sizes 0) v ≡ 0 → (if t then 0 else stands_for variables (digits sizes 0) v) ≡ 0
    go true e = refl
    go false e = e

pub first_binds : (n : Net) (t slots : ℕ) → Binds n (numbered n t 0) (replicate slots 0)
first_binds n t slots v e = zero_at slots v ∙ sym (zero_stands (theirs n t) (their_sizes n t) v)

-- ---- slots of the table
-- what is told of slot k
abbrev pub SlotTold : Net → ℕ → ℕ → Option Own → Type 0
SlotTold n t k own = OwnTold (get_or (own_of n (transition_at n t)) k 0) own

-- it is told by the net's table
pub slot_by : {s plan : List ℕ} {n : Net} → Prepared s n plan → {t k : ℕ} → t < length n.transitions → k < 4 → (own : Option Own) → OwnTold (get_or (own_in plan) (t * 4 + k) 0) own → SlotTold n t k own
slot_by p {t} {k} lt few own told = rw (p.owned.slot t k lt few) at told

-- slot k holds a variable, and the size of its set
pub record SlotHeld (variables sizes : List ℕ) (k : ℕ) (own : Own) : Type 0 where
  pub inside : k < length variables
  pub variable : own.variable ≡ get_or variables k 0
  pub size : own.size ≡ get_or sizes k 0

pub map_at : {A : Type 0} (f : ℕ → A) (d : A) (l : List ℕ) (k : ℕ) → k < length l → get_or (map f l) k d ≡ f (get_or l k 0)
map_at f d [] k lt = absurd (omega arith)
map_at f d (x ∷ l) zero lt = refl
map_at f d (x ∷ l) (suc k) lt = map_at f d l k (omega arith)

pub in_get_d : (l : List ℕ) (k : ℕ) → k < length l → In (get_or l k 0) l
in_get_d [] k lt = absurd (omega arith)
in_get_d (x ∷ l) zero lt = here
in_get_d (x ∷ l) (suc k) lt = there (in_get_d l k (omega arith))

module _ {n : Net} (l : Limits n) {t : ℕ} (lt : t < length n.transitions) where
  pub few_theirs : length (their_sizes n t) ≤ 4
  few_theirs = rw length-map (l.few_variables t lt)

  module _ (k : ℕ) where
    abbrev entry : ℕ
    entry = get_or (own_of n (transition_at n t)) k 0

    -- past the last variable the table has 0
    past_last : length (theirs n t) ≤ k → entry ≡ 0
    past_last h = get_or-eq_default (own_of n (transition_at n t)) 0 (let none : length (own_of n (transition_at n t)) ≤ k = rw length-map h in none)

    -- and before it the variable and its size
    module _ (h : k < length (theirs n t)) where
      abbrev v : ℕ
      v = get_or (theirs n t) k 0

      abbrev size : ℕ
      size = size_of n (get_or n.variables v 0)

      entry_is : entry ≡ v * 256 + size
      entry_is = map_at (λ v. v * 256 + size_of n (get_or n.variables v 0)) 0 (theirs n t) k h

      size_is : get_or (their_sizes n t) k 0 ≡ size
      size_is = map_at (λ v. size_of n (get_or n.variables v 0)) 0 (theirs n t) k h

      is_one : v < length n.variables
      is_one = (theirs_stand n t (in_get_d (theirs n t) k h)).0

      some_size : slot_size entry ≡ size
      some_size = let sized = l.sizes (get_or n.variables v 0) (l.variable_sets v is_one) in omega (arith, entry_is)

    -- none is told past the last
    pub slot_none : SlotTold n t k None → length (theirs n t) ≤ k
    slot_none told = go (ltb k (length (theirs n t))) refl
      where
        go : (b : Bool) → ltb k (length (theirs n t)) ≡ b → length (theirs n t) ≤ k
        go false e = ltb-false k (length (theirs n t)) e
        go true e =
            let h = ltb-true k (length (theirs n t)) e in
            let sized = l.sizes (get_or n.variables (v h) 0) (l.variable_sets (v h) (is_one h)) in
            absurd (omega (arith, some_size h))

    -- one is told of a variable
    pub slot_some : (own : Own) → SlotTold n t k (Some own) → SlotHeld (theirs n t) (their_sizes n t) k own
    slot_some own told = go (ltb k (length (theirs n t))) refl
      where
        go : (b : Bool) → ltb k (length (theirs n t)) ≡ b → SlotHeld (theirs n t) (their_sizes n t) k own
        go true e =
            let h = ltb-true k (length (theirs n t)) e in
            let few = l.variables in
            let sized = l.sizes (get_or n.variables (v h) 0) (l.variable_sets (v h) (is_one h)) in
            record { inside = h; variable = omega (arith, told.0, entry_is h, is_one h); size = omega (arith, told.1, some_size h, size_is h) }
        go false e = absurd (omega (arith, past_last (ltb-false k (length (theirs n t)) e), told.1, own.sized))

-- ---- how many bindings
-- what multiplies them, up to slot k
pub small_space : {space r : ℕ} (k : ℕ) → space ≤ 255 ^ k → r ≤ 255 → space * r ≤ 255 ^ (k + 1)
small_space k le few = rw (add-one, pow-suc) (mul-le-mul le few)

pub fits_space : {space : ℕ} (k : ℕ) → space ≤ 255 ^ k → k ≤ 4 → space ≤ 4228250625
fits_space k le few = le_trans le (pow-le-pow_right {n = 255} (omega arith) few)

module _ {n : Net} (l : Limits n) {t : ℕ} (lt : t < length n.transitions) where
  pub space_goes : {space r : ℕ} (k : ℕ) (own : Option Own) → SlotTold n t k own → r ≡ colours_at own
      → space ≡ product (take k (their_sizes n t)) → space * r ≡ product (take (k + 1) (their_sizes n t))
  space_goes {space} k None told all so =
      let le = slot_none l lt k told in
      let past : length (their_sizes n t) ≤ k = omega (arith, sizes_are n t) in
      let more : length (their_sizes n t) ≤ k + 1 = omega arith in
      rw all (mul-one space ∙ so ∙ ap product (take_all k (their_sizes n t) past ∙ sym (take_all (k + 1) (their_sizes n t) more)))
  space_goes k (Some own) told all so =
      let held = slot_some l lt k own told in
      let inside : k < length (their_sizes n t) = omega (arith, held.inside, sizes_are n t) in
      rw (all, held.size, so, add-one k)
      (sym (ap product (take-suc (their_sizes n t) k 0 inside) ∙ product-with (take k (their_sizes n t)) (get_or (their_sizes n t) k 0)))

  pub space_ends : {space : ℕ} (k : ℕ) → 4 ≤ k → space ≡ product (take k (their_sizes n t)) → space ≡ product (their_sizes n t)
  space_ends k all so = so ∙ ap product (take_all k (their_sizes n t) (let h : length (their_sizes n t) ≤ k = omega (arith, few_theirs l lt) in h))

-- what is told of each net that a table is of holds of a transition of a drawing
pub its_space : (transition : DrawnTransition) {plan : List ℕ} {t space : ℕ} → plan ≡ transition.drawing.plan → IsDrawn transition.drawing.file transition.drawing.plan
    → t ≡ transition.number → t < length (its_net transition).transitions
    → ((file : List ℕ) (n : Net) → Prepared file n plan → t < length n.transitions → space ≡ product (their_sizes n t)) → space ≡ product (its_sizes transition)
its_space transition is known number inside told = rw (is, number) at told transition.drawing.file (its_net transition) known (rw number at inside)
