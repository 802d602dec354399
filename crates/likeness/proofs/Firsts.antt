-- Demand 3 over the calls: the first order that fires is the order of the first row that does. Assumes nothing.
use Rattle.std.specs.Prelude.{◌+◌, ◌∷◌}
use mathlib.Core.Path.{◌≡◌, refl, sym, ap, subst, ◌∙◌}
use native.Mathlib.Omega.{arith}
use native.Mathlib.Nat.{add-zero, zero-add}
use borrow.Author.Tests.{eqb-true}
use Rattle.reading.specs.Basics.{ℕ, suc, Bool, true, false, List, [], map, filter_map, Option, none, some, Option-elim, option_map, length, get_elem?, leb, eqb, numbers_from, below, take}
use Rattle.reading.specs.Reading.{Outcome, accepted, ◌when_not◌}
use Rattle.reading.proofs.Lists.{In, here, there}
use Rattle.reading.proofs.Permits.{Permits, Refuses, Judged, all_pass, one_refuses, judged, first_holds}
use Rattle.firing.specs.Firing.{Weights, First, found, nothing, one_more, first}
use Rattle.firing.specs.Calls.{marking_checks, first_call}
use Rattle.firing.proofs.Running.{first_is_lem, first_stops}
use Rattle.flat_file.specs.Flat.{Flat, read_flat, fire_row, fire_image, first_row}
use Rattle.net.specs.Net.{Net, flat_place_count}
use Rattle.net_file.specs.NetFile.{read_net}
use Rattle.net_file.proofs.Limits.{limits}
use Rattle.bindings.specs.Effect.{Binding, bindings, effect}
use Rattle.bindings.specs.Orders.{order_of, fire_order, first_order}
use Rattle.bindings.proofs.NamedOrders.{order_names}
use Rattle.row_numbers.specs.Unfolding.{Rowed, rows, unfolded, flat_file, order_of_row, image, unfold_call, order_call}
use Rattle.likeness.specs.Demand3.{Marking, FirstAlike, both_found, both_nothing, both_refused, FirstCallsAgree}
use Rattle.row_numbers.proofs.Rows.{rowed, rowed_if, rowed_is}
use Rattle.likeness.proofs.Answers.{image_back, row_fires}
use Rattle.likeness.proofs.Likeness.{place_count, row_count, alike}
use Rattle.likeness.proofs.Calls.{writing_went, front}

-- ---- any candidates, of which some pass
-- two that are first go together, or there are none
pub data Both {A : Type 0} (Q : A → ℕ → Type 0) : First A → First ℕ → Type 0 where
  found_both : {a : A} {i t u : ℕ} → Q a i → Both Q (found a t) (found i u)
  none_both : {t u : ℕ} → Both Q (nothing t) (nothing u)

module _ {A : Type 0} (Q : A → ℕ → Type 0) where
  -- one more was tried on the left, or on both sides
  one_more_left : {x : First A} {y : First ℕ} → Both Q x y → Both Q (one_more x) y
  one_more_left (found_both q) = found_both q
  one_more_left none_both = none_both

  one_more_both : {x : First A} {y : First ℕ} → Both Q x y → Both Q (one_more x) (one_more y)
  one_more_both (found_both q) = found_both q
  one_more_both none_both = none_both

-- the first candidate that passes a test, and the first number of those that have a row
module _ {A B R : Type 0} (Q : A → ℕ → Type 0) (code : B → A) (passes : B → Option R) (test : A → Bool) (rowTest : ℕ → Bool) where
  -- a candidate's row, numbered from k on, is tested as the candidate is
  abbrev pub Tested : List B → List R → ℕ → Type 0
  Tested l rows k = (j : ℕ) (b : B) (r : R) → In b l → passes b ≡ some r → get_elem? rows j ≡ some r → (rowTest (k + j) ≡ test (code b)) × Q (code b) (k + j)

  abbrev pub Firsts : List B → List R → ℕ → Type 0
  Firsts l rows k = Both Q (first test (map code l)) (first rowTest (numbers_from k (length rows)))

  -- they go together
  pub first_both : (l : List B) (k : ℕ) → ((b : B) → In b l → passes b ≡ none → test (code b) ≡ false) → Tested l (filter_map passes l) k → Firsts l (filter_map passes l) k
  unfolding first numbers_from filter_map
  first_both [] k fails agree = none_both
  first_both (b ∷ l) k fails agree = by_row (passes b) refl (first_both l k (λ c i. fails c (there i))) (first_both l (k + 1) (λ c i. fails c (there i))) agree
    where
      rows_by : Option R → List R
      rows_by o = Option-elim o (filter_map passes l) (λ r. r ∷ filter_map passes l)

      by_test : (r : R) (t : Bool) → test (code b) ≡ t → passes b ≡ some r → (Tested l (filter_map passes l) (k + 1) → Firsts l (filter_map passes l) (k + 1))
          → Tested (b ∷ l) (r ∷ filter_map passes l) k → Firsts (b ∷ l) (r ∷ filter_map passes l) k
      by_test r true e p ih y =
          let (f, q) = y 0 b r here p refl in
          let first-row : rowTest k ≡ true = (rw add-zero at f) ∙ e in
          rw (e, first-row) (found_both (rw add-zero at q))
      by_test r false e p ih y =
          let (f, q) = y 0 b r here p refl in
          let first-row : rowTest k ≡ false = (rw add-zero at f) ∙ e in
          rw (e, first-row) (one_more_both Q (ih (λ j c s i g a. let z : k + suc j ≡ k + 1 + j = omega arith in rw (← z) (y (suc j) c s (there i) g a))))

      by_row : (o : Option R) → passes b ≡ o → (Tested l (filter_map passes l) k → Firsts l (filter_map passes l) k)
          → (Tested l (filter_map passes l) (k + 1) → Firsts l (filter_map passes l) (k + 1)) → Tested (b ∷ l) (rows_by o) k → Firsts (b ∷ l) (rows_by o) k
      by_row none e here_on next-on y = rw (fails b here e) (one_more_left Q (here_on (λ j c r i p g. y j c r (there i) p g)))
      by_row (some r) e here_on next-on y = by_test r (test (code b)) refl e next-on y

-- ---- orders and rows
-- a row is answered as its image is
pub row_as_image : (f : Flat) (i : ℕ) (m : List ℕ) → fire_row f i m ≡ fire_image f (image i) m
unfolding fire_image
row_as_image f i m = rw (image_back i)

module _ (s m : List ℕ) (n : Net) (reads : read_net s ≡ accepted n) where
  abbrev OrderOf : List ℕ → ℕ → Type 0
  OrderOf order i = order_of_row n i ≡ some order

  -- a binding without a row does not fire
  unrowed : (b : Binding) → In b (bindings n) → rowed_if n b ≡ none → eqb (fire_order n (order_of b) m).answer 0 ≡ false
  unfolding fire_order
  unrowed b i e = go (effect n b) refl e
    where
      go : (o : Option Weights) → effect n b ≡ o → option_map (rowed (order_of b)) o ≡ none → eqb (fire_order n (order_of b) m).answer 0 ≡ false
      go none f q = rw (order_names n (limits s n reads).few_variables i, f)
      go (some w) f q = let z : ◌≡◌ {A = ℕ} 0 1 = cc in absurd (omega arith)

  -- a row fires as its order does
  row_tested : Marking n m → (j : ℕ) (b : Binding) (r : Rowed) → In b (bindings n) → rowed_if n b ≡ some r → get_elem? (rows n) j ≡ some r
      → (eqb (fire_row (unfolded n) (0 + j) m).answer 0 ≡ eqb (fire_order n (order_of b) m).answer 0) × OrderOf (order_of b) (0 + j)
  unfolding fire_order order_of_row
  row_tested sized j b r i p at =
      let (works, order) = rowed_is n b r p in
      rw (zero-add j, row_as_image (unfolded n) j m, row_fires n j m sized at, order_names n (limits s n reads).few_variables i, works, at) (refl, ap some order)

  -- what is found
  found_alike : {x : First (List ℕ)} {y : First ℕ} → Both OrderOf x y → FirstAlike s (accepted x) (accepted y)
  unfolding order_call
  found_alike (found_both {a = order} {i = i} e) = let q : order_call s i ≡ accepted (some order) = rw (reads, e) in both_found q
  found_alike none_both = both_nothing

  abbrev order_called : Outcome (First (List ℕ))
  order_called = first_call (λ net. marking_checks (flat_place_count net) m) (λ net. map order_of (bindings net)) fire_order (accepted n) m

  abbrev row_called : Outcome (First ℕ)
  row_called = first_call (λ f. marking_checks (length f.initial) m) (λ f. below (length f.rows)) fire_row (accepted (unfolded n)) m

  -- the two calls on the nets that were read
  firsts_alike : FirstAlike s order_called row_called
  unfolding rows
  firsts_alike = go (judged (marking_checks (flat_place_count n) m))
    where
      same_checks : marking_checks (length (unfolded n).initial) m ≡ marking_checks (flat_place_count n) m
      same_checks = rw (place_count n)

      go : Judged (marking_checks (flat_place_count n) m) → FirstAlike s order_called row_called
      go (all_pass p) =
          let fits = eqb-true (length m) (flat_place_count n) (first_holds p) in
          let order_is = first_is_lem (λ net. marking_checks (flat_place_count net) m) (λ net. map order_of (bindings net)) fire_order (accepted n) m refl p refl in
          let row_is = first_is_lem (λ f. marking_checks (length f.initial) m) (λ f. below (length f.rows)) fire_row (accepted (unfolded n)) m refl (subst Permits (sym same_checks) p) refl in
          rw (← order_is, ← row_is, row_count n) (found_alike
          (first_both OrderOf order_of (rowed_if n) (λ order. eqb (fire_order n order m).answer 0) (λ i. eqb (fire_row (unfolded n) i m).answer 0) (bindings n) 0 unrowed (row_tested fits)))
      go (one_refuses k place r) =
          let order_is = first_stops (λ net. marking_checks (flat_place_count net) m) (λ net. map order_of (bindings net)) fire_order (accepted n) m refl r in
          let row_is = first_stops (λ f. marking_checks (length f.initial) m) (λ f. below (length f.rows)) fire_row (accepted (unfolded n)) m refl (subst (λ c. Refuses c k place) (sym same_checks) r) in
          rw (← order_is, ← row_is) both_refused

-- the demand
pub first_calls : FirstCallsAgree
unfolding unfold_call first_order first_row
first_calls s m flatOut bytes e =
    writing_went (λ n. (14 when_not leb (length (flat_file n)) (length flatOut)) ∷ []) (λ n. length (flat_file n)) flat_file s flatOut e λ n reads checks is w.
    let flat_is : take bytes (unfold_call s flatOut).out ≡ flat_file n = ap (take bytes) w ∙ front (flat_file n) flatOut is in
    let read : read_flat (take bytes (unfold_call s flatOut).out) ≡ accepted (unfolded n) = ap read_flat flat_is ∙ (alike n (limits s n reads)).reads_back in
    rw (read, reads) (firsts_alike s m n reads)
