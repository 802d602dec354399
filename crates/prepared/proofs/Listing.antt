-- The loops that list each transition's own variables, four slots each. Assumes nothing.
use Rattle.std.specs.Prelude.{◌+◌, ◌*◌, ◌∷◌, if◌then◌else◌}
use mathlib.Core.Path.{◌≡◌, refl, sym, ap, ◌∙◌}
use mathlib.Core.Logic.{⊎_elim}
use Prim.Native.Nat.{◌≤◌, ◌<◌}
use native.Mathlib.Omega.{arith}
use native.Mathlib.Nat.{eq-or-lt_of_le}
use borrow.Author.Tests.{ltb-true, ltb-false, eqb-true, eq-eqb, ne_eqb}
use lib.ListN.{set, replicate, length-set, length-append, length-map, get_or-append, get_or-eq_default}
use lib.Seq.{get_or-set_same, get_or-set_other, get_or_at}
use Rattle.reading.specs.Basics.{ℕ, zero, suc, Bool, true, false, List, [], map, length, get_or, ltb, eqb, with, below, numbers_from, keep}
use Rattle.net.specs.Net.{Net, variables_of, in_transition, transition_at}
use Rattle.net.specs.internal.ReaderEnums.{bits, member}
use Rattle.net_file.specs.Limits.{Limits}
use Rattle.net_transitions.proofs.Spaces.{past, keep-bits, below_next, count_grows}
use Rattle.prepared.specs.internal.TransitionVariables.{own_of, SlotsListed}
use Rattle.net_transitions.specs.internal.TransitionTables.{no_head}
use Rattle.net_transitions.specs.declared.transitions.Head.{Head}
use Rattle.reading.proofs.Clash.{clash}

-- ---- the entries of the variables below a number
module _ (f : ℕ → ℕ) (p : ℕ → Bool) where
  abbrev pub entries : ℕ → List ℕ
  entries v = map f (keep p (below v))

  entries_with : (l : List ℕ) (a : ℕ) → map f (keep p (with l a)) ≡ (if p a then with (map f (keep p l)) (f a) else map f (keep p l))
  unfolding keep
  entries_with [] a = go (p a)
    where
      go : (t : Bool) → map f (if t then a ∷ [] else []) ≡ (if t then f a ∷ [] else [])
      go true = refl
      go false = refl
  entries_with (x ∷ l) a = go (p x) (p a) (entries_with l a)
    where
      go : (s t : Bool) → map f (keep p (with l a)) ≡ (if t then with (map f (keep p l)) (f a) else map f (keep p l))
          → map f (if s then x ∷ keep p (with l a) else keep p (with l a)) ≡ (if t then with (map f (if s then x ∷ keep p l else keep p l)) (f a) else map f (if s then x ∷ keep p l else keep p l))
      go true true e = ap (λ m. f x ∷ m) e
      go true false e = ap (λ m. f x ∷ m) e
      go false true e = e
      go false false e = e

  entries_in : (v : ℕ) → p v ≡ true → entries (v + 1) ≡ with (entries v) (f v)
  entries_in v e = rw (below_next v, entries_with (below v) v, e)

  entries_out : (v : ℕ) → p v ≡ false → entries (v + 1) ≡ entries v
  entries_out v e = rw (below_next v, entries_with (below v) v, e)

-- ---- one transition
-- the slots from base on hold the entries of the variables below v, and what stands before them is kept
pub record Listing (uses : ℕ) (f : ℕ → ℕ) (base : ℕ) (own : List ℕ) (k v : ℕ) : Type 0 where
  pub counts : k ≡ length (entries f (member uses) v)
  pub slots : (j : ℕ) → j < 4 → get_or own (base + j) 0 ≡ get_or (entries f (member uses) v) j 0

pub list_begins : (uses : ℕ) (f : ℕ → ℕ) (base : ℕ) (own : List ℕ) → ((j : ℕ) → j < 4 → get_or own (base + j) 0 ≡ 0) → Listing uses f base own 0 0
unfolding keep numbers_from
list_begins uses f base own zeros = record { counts = refl; slots = λ j lt. zeros j lt }

-- more at the end of a list: its front, itself, and past it
with_at : (l : List ℕ) (a j k : ℕ) → k ≡ length l → get_or (with l a) j 0 ≡ (if eqb j k then a else get_or l j 0)
with_at l a j k e = go (ltb j k) refl
  where
    go : (t : Bool) → ltb j k ≡ t → get_or (with l a) j 0 ≡ (if eqb j k then a else get_or l j 0)
    go true q = let h = ltb-true j k q in rw (ne_eqb j k (λ s. omega arith)) (get_or-append l (a ∷ []) 0 j (omega arith))
    go false q = let h = ltb-false j k q in ⊎_elim
        (λ s. rw (eq-eqb j k (sym s)) (get_or_at l a [] 0 j (omega arith)))
        (λ s. rw (ne_eqb j k (λ x. omega arith)) (get_or-eq_default (with l a) 0 (omega (arith, length-append l (a ∷ []))) ∙ sym (get_or-eq_default l 0 (omega arith))))
        (eq-or-lt_of_le h)

set_at : (l : List ℕ) (base k a j : ℕ) → base + k < length l → get_or (set l (base + k) a) (base + j) 0 ≡ (if eqb j k then a else get_or l (base + j) 0)
set_at l base k a j lt = go (eqb j k) refl
  where
    go : (t : Bool) → eqb j k ≡ t → get_or (set l (base + k) a) (base + j) 0 ≡ (if t then a else get_or l (base + j) 0)
    go true q = let s = eqb-true j k q in rw s (get_or-set_same l (base + k) a 0 lt)
    go false q = get_or-set_other l (base + k) (base + j) a 0 (λ e. let s : j ≡ k = omega arith in clash refl (eq-eqb j k s) q)

module _ {uses base k v : ℕ} {f : ℕ → ℕ} {own : List ℕ} (here : Listing uses f base own k v) where
  -- a variable of the set goes into the next slot
  pub list_goes : member uses v ≡ true → k < 4 → base ≤ 124 → length own ≡ 128 → Listing uses f base (set own (base + k) (f v)) (k + 1) (v + 1)
  list_goes e less room sized =
      let more = entries_in f (member uses) v e in
      record {
        counts = sym (ap length more ∙ length-append (entries f (member uses) v) (f v ∷ []) ∙ ap (λ x. x + 1) (sym here.counts));
        slots = λ j lt. set_at own base k (f v) j (omega arith) ∙ ap (λ x. if eqb j k then f v else x) (here.slots j lt)
            ∙ sym (ap (λ l. get_or l j 0) more ∙ with_at (entries f (member uses) v) (f v) j k here.counts);
      }

  -- one that is not in the set is passed
  pub list_passes : member uses v ≡ false → Listing uses f base own k (v + 1)
  list_passes e =
      let same = entries_out f (member uses) v e in record { counts = here.counts ∙ ap length (sym same); slots = λ j lt. here.slots j lt ∙ ap (λ l. get_or l j 0) (sym same) }

  -- and so is any behind the fourth, where there are no more than four
  pub list_full : {n : ℕ} → 4 ≤ k → v < n → length (entries f (member uses) n) ≤ 4 → Listing uses f base own k (v + 1)
  list_full {n} full lt few = go (member uses v) refl
    where
      go : (t : Bool) → member uses v ≡ t → Listing uses f base own k (v + 1)
      go true e =
          let more = ap length (entries_in f (member uses) v e) ∙ length-append (entries f (member uses) v) (f v ∷ []) in
          let far = count_grows (member uses) (v + 1) n (omega arith) in
          absurd (omega (arith, more, here.counts, few, far, length-map (keep (member uses) (below (v + 1))) f, length-map (keep (member uses) (below n)) f))
      go false e = list_passes e

  -- at the end they hold all entries
  pub list_ends : {n : ℕ} → v ≡ n → n ≤ 32 → (stands : ℕ → Bool) → uses ≡ bits stands 32 → (j : ℕ) → j < 4 → get_or own (base + j) 0 ≡ get_or (map f (keep stands (below n))) j 0
  list_ends all le stands e j lt = here.slots j lt ∙ ap (λ l. get_or (map f l) j 0) (rw all (keep-bits stands e le))

-- what is in a set of 32 bits is below 32
pub member_below : {uses v : ℕ} → uses < 4294967296 → member uses v ≡ true → v < 32
member_below {uses} {v} small e = go (ltb v 32) refl
  where
    go : (t : Bool) → ltb v 32 ≡ t → v < 32
    go true q = ltb-true v 32 q
    go false q = clash refl e (past uses 32 v small (ltb-false v 32 q))

-- as few entries by the set of bits as by the test
pub few_entries : {uses n : ℕ} (f : ℕ → ℕ) (stands : ℕ → Bool) → uses ≡ bits stands 32 → n ≤ 32 → length (keep stands (below n)) ≤ 4 → length (entries f (member uses) n) ≤ 4
few_entries {uses} {n} f stands e le few = omega (arith, length-map (keep (member uses) (below n)) f, ap length (keep-bits stands e le))

-- the loop over the variables: the other slots are kept, and if those from base on were 0 and there are no more than four entries, they are listed
pub record Slotting (uses : ℕ) (f : ℕ → ℕ) (base n : ℕ) (before own : List ℕ) (k v : ℕ) : Type 0 where
  pub most : k ≤ 4
  pub sized : length own ≡ 128
  pub front : (i : ℕ) → i < base → get_or own i 0 ≡ get_or before i 0
  pub back : (i : ℕ) → base + 4 ≤ i → get_or own i 0 ≡ get_or before i 0
  pub listed : length (entries f (member uses) n) ≤ 4 → ((j : ℕ) → j < 4 → get_or before (base + j) 0 ≡ 0) → Listing uses f base own k v

pub slotting_begins : (uses : ℕ) (f : ℕ → ℕ) (base n : ℕ) (before : List ℕ) → length before ≡ 128 → Slotting uses f base n before before 0 0
slotting_begins uses f base n before sized =
    record { most = omega arith; sized = sized; front = λ i lt. refl; back = λ i le. refl; listed = λ few zeros. list_begins uses f base before zeros }

module _ {uses base n k v : ℕ} {f : ℕ → ℕ} {before own : List ℕ} (here : Slotting uses f base n before own k v) where
  pub slotting_goes : {x : ℕ} → member uses v ≡ true → k < 4 → base ≤ 124 → x ≡ f v → Slotting uses f base n before (set own (base + k) x) (k + 1) (v + 1)
  slotting_goes {x} e less room is = rw is (record {
    most = omega arith;
    sized = length-set own (base + k) (f v) ∙ here.sized;
    front = λ i lt. get_or-set_other own (base + k) i (f v) 0 (λ q. omega arith) ∙ here.front i lt;
    back = λ i le. get_or-set_other own (base + k) i (f v) 0 (λ q. omega arith) ∙ here.back i le;
    listed = λ few zeros. list_goes (here.listed few zeros) e less room here.sized;
  })

  pub slotting_passes : member uses v ≡ false → Slotting uses f base n before own k (v + 1)
  slotting_passes e = record { most = here.most; sized = here.sized; front = here.front; back = here.back; listed = λ few zeros. list_passes (here.listed few zeros) e }

  pub slotting_full : 4 ≤ k → v < n → Slotting uses f base n before own k (v + 1)
  slotting_full full lt = record { most = here.most; sized = here.sized; front = here.front; back = here.back; listed = λ few zeros. list_full (here.listed few zeros) full lt few }

-- ---- all transitions
-- what the net reader knows of the sets of bits
abbrev pub Used : Net → List Head → Type 0
Used n heads = (t : ℕ) → t < length n.transitions → (get_or heads t no_head).uses ≡ bits (λ v. in_transition v (transition_at n t)) 32

-- so many transitions are listed
abbrev pub Rows : Net → List ℕ → ℕ → Type 0
Rows n own t = (s k : ℕ) → s < t → k < 4 → get_or own (s * 4 + k) 0 ≡ get_or (own_of n (transition_at n s)) k 0

-- the slots from a transition on are 0
abbrev pub Free : List ℕ → ℕ → Type 0
Free own t = (i : ℕ) → t * 4 ≤ i → get_or own i 0 ≡ 0

pub free_begins : (slots i : ℕ) → get_or {A = ℕ} (replicate slots 0) i 0 ≡ 0
free_begins zero i = refl
free_begins (suc slots) zero = refl
free_begins (suc slots) (suc i) = free_begins slots i

pub free_goes : (t : ℕ) {uses : ℕ} {sizes vars own after : List ℕ} → SlotsListed uses sizes vars (t * 4) own after → Free own t → Free after (t + 1)
free_goes t listed free i le = listed.back i (omega arith) ∙ free i (omega arith)

module _ (n : Net) {sizes vars : List ℕ} (heads : List Head) (es : n.sets ≡ sizes) (ev : n.variables ≡ vars) (l : Limits n) (used : Used n heads) where
  row_listed : {u : ℕ} {own after : List ℕ} (t : ℕ) → t < length n.transitions → u ≡ (get_or heads t no_head).uses → SlotsListed u sizes vars (t * 4) own after → Free own t
      → (k : ℕ) → k < 4 → get_or after (t * 4 + k) 0 ≡ get_or (own_of n (transition_at n t)) k 0
  unfolding variables_of
  row_listed t lt e listed free k less =
      rw (es, ev) (listed.slots (λ v. in_transition v (transition_at n t)) (e ∙ used t lt) (rw ev at (l.few_variables t lt)) (λ j h. free (t * 4 + j) (omega arith)) k less)

  pub rows_go : {u : ℕ} {own after : List ℕ} (t : ℕ) → t < length n.transitions → u ≡ (get_or heads t no_head).uses → SlotsListed u sizes vars (t * 4) own after → Free own t → Rows n own t
      → Rows n after (t + 1)
  rows_go {own = own} {after = after} t lt e listed free rows s k less four = ⊎_elim
      (λ q. rw q (row_listed t lt e listed free k four))
      (λ before. listed.front (s * 4 + k) (omega arith) ∙ rows s k before four)
      (eq-or-lt_of_le (let h : s ≤ t = omega arith in h))
