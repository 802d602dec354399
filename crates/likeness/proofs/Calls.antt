-- Demand 3 over the calls: firing a list. Assumes nothing.
use Rattle.std.specs.Prelude.{◌*◌, ◌/◌, ◌%◌, ◌∷◌, ◌++◌}
use mathlib.Core.Path.{◌≡◌, refl, sym, ap, ap₂, subst, ◌∙◌}
use native.Mathlib.Omega.{arith}
use borrow.Author.Tests.{eqb-true}
use lib.ListN.{length-map}
use lib.Seq.{take-append_seam, drop-append_seam}
use Rattle.reading.specs.Basics.{ℕ, List, [], map, flat_map, length, take, drop, leb, eqb, below, items, over}
use Rattle.reading.specs.Reading.{Outcome, accepted, refused, on, CallCheck, ◌when_not◌, refusing, permitted}
use Rattle.reading.proofs.Lists.{length_from, map-map}
use Rattle.reading.proofs.Permits.{Permits, Refuses, permitting, refusing_at, Judged, all_pass, one_refuses, judged, first_holds}
use Rattle.firing.specs.Firing.{Fired, run, ending}
use Rattle.firing.proofs.Running.{call_stops}
use Rattle.firing.specs.Calls.{FireCall, fire_checks, fire_call}
use Rattle.flat_file.specs.Flat.{fire_image, fire_images}
use Rattle.net.specs.Net.{Net, flat_place_count}
use Rattle.net_file.specs.NetFile.{read_net}
use Rattle.net_file.specs.Limits.{Limits}
use Rattle.net_file.proofs.Limits.{limits}
use Rattle.bindings.specs.Orders.{fire_order, fire_orders}
use Rattle.row_numbers.specs.Unfolding.{unfolded, flat_file, row_number, image, images, WriteCall, writing, unfold_call, images_call}
use Rattle.likeness.specs.Demand3.{two_as_one, as_row, as_rows, FireCallsAgree}
use Rattle.likeness.proofs.Answers.{lists_agree}
use Rattle.likeness.proofs.Likeness.{place_count, alike}

-- ---- what a call wrote
-- what a writing call gives, by what was read and permitted
abbrev given_out : (Net → ℕ) → (Net → List ℕ) → List ℕ → Outcome Net → WriteCall
given_out number bytes out read =
    on read (λ refusal place. record { result = refused refusal place; out = out }) λ n. record { result = accepted (number n); out = over (bytes n) out }

-- one that went through: its net, its checks, its number and its bytes
pub writing_went : {P : Type 0} (checks : Net → List CallCheck) (number : Net → ℕ) (bytes : Net → List ℕ) (s out : List ℕ) {k : ℕ} → (writing checks number bytes s out).result ≡ accepted k
    → ((n : Net) → read_net s ≡ accepted n → Permits (checks n) → number n ≡ k → (writing checks number bytes s out).out ≡ over (bytes n) out → P) → P
writing_went {P} checks number bytes s out {k} e h = by_net (read_net s) refl e
  where
    by_checks : (n : Net) → read_net s ≡ accepted n → Judged (checks n) → (given_out number bytes out (refusing (checks n) (accepted n))).result ≡ accepted k → P
    by_checks n f (all_pass p) q =
        let g = permitting (accepted n) p in
        let is : accepted (number n) ≡ accepted k = (rw g at q) in
        h n f p (cc) (rw (f, g))
    by_checks n f (one_refuses r place p) q =
        let g : refused r place ≡ accepted k = (rw (refusing_at (accepted n) p) at q) in
        let z : ◌≡◌ {A = ℕ} 0 1 = cc in
        absurd (omega arith)

    by_net : (o : Outcome Net) → read_net s ≡ o → (given_out number bytes out (permitted checks o)).result ≡ accepted k → P
    by_net (accepted n) f q = by_checks n f (judged (checks n)) q
    by_net (refused r p) f q = let z : ◌≡◌ {A = ℕ} 0 1 = cc in absurd (omega arith)

-- what was written stands in front
pub front : (written lent : List ℕ) {k : ℕ} → length written ≡ k → take k (over written lent) ≡ written
front written lent e = rw (← e) (take-append_seam written (drop (length written) lent))

-- ---- answers
ending_as_rows : (m : List ℕ) (l : List Fired) → ending m (map as_row l) ≡ ending m l
unfolding ending
ending_as_rows m [] = refl
ending_as_rows m (f ∷ l) = ending_as_rows f.marking l

-- written over once more
over_again : (g : ℕ → ℕ) (xs lent : List ℕ) → over (map g (take (length xs) (over xs lent))) (over xs lent) ≡ over (map g xs) lent
over_again g xs lent =
    rw (front xs lent refl)
    (ap (λ l. map g xs ++ l) (let e : drop (length (map g xs)) (over xs lent) ≡ drop (length (map g xs)) lent = rw (length-map xs g, drop-append_seam xs (drop (length xs) lent)) in e))

-- the answers of rows over a lent list, from those of orders
answers_as_rows : (l : List Fired) (lent : List ℕ)
    → over (map (λ f. f.answer) (map as_row l)) lent
    ≡ over (map two_as_one (take (length l) (over (map (λ f. f.answer) l) lent))) (over (map (λ f. f.answer) l) lent)
answers_as_rows l lent =
    let same : map (λ f. f.answer) (map as_row l) ≡ map two_as_one (map (λ f. f.answer) l) = map-map as_row (λ f. f.answer) l ∙ sym (map-map (λ f. f.answer) two_as_one l) in
    ap (λ xs. over xs lent) same ∙ sym (over_again two_as_one (map (λ f. f.answer) l) lent)
    ∙ ap (λ k. over (map two_as_one (take k (over (map (λ f. f.answer) l) lent))) (over (map (λ f. f.answer) l) lent)) (length-map l (λ f. f.answer))

-- ---- how many images
fives : {A : Type 0} (f : A → ℕ) (l : List A) → length (flat_map (λ a. image (f a)) l) ≡ 5 * length l
unfolding flat_map
fives f [] = refl
fives f (a ∷ l) = let e = fives f l in omega arith

-- five bytes an order
images-length : (n : Net) (orders : List ℕ) → length (images n orders) ≡ 5 * (length orders / 6)
unfolding images
images-length n orders = fives (row_number n) (items 6 orders) ∙ ap (λ k. 5 * k) (length-map (below (length orders / 6)) (λ i. take 6 (drop (i * 6) orders)) ∙ length_from 0 (length orders / 6))

-- ---- the call
-- a list that is fired, and what the call gives on a net that was read where all its checks pass
abbrev all_fired : {Order : Type 0} → (Order → List ℕ → Fired) → List ℕ → List Order → List ℕ → FireCall
all_fired turn m orders answers =
    let l = run turn m orders in
    record { result = accepted (length l); marking = ending m l; answers = over (map (λ f. f.answer) l) answers }

called_all : {Net Order : Type 0} (checks : Net → List CallCheck) (turn : Net → Order → List ℕ → Fired) (net : Net) (m : List ℕ) (orders : List Order) (answers : List ℕ)
    → Permits (checks net) → fire_call checks turn (accepted net) m orders answers ≡ all_fired (turn net) m orders answers
unfolding fire_call
called_all checks turn net m orders answers p = rw (permitting (accepted net) p)

module _ (n : Net) (within-limits : Limits n) (m orders answers : List ℕ) (whole : length orders % 6 ≡ 0) where
  -- both calls make the same checks
  same_checks : fire_checks (length (unfolded n).initial) 5 m (images n orders) answers ≡ fire_checks (flat_place_count n) 6 m orders answers
  same_checks =
      let fifth : length (images n orders) / 5 ≡ length orders / 6 = omega (arith, images-length n orders) in
      let even : length (images n orders) % 5 ≡ length orders % 6 = omega (arith, images-length n orders) in
      rw (place_count n, fifth, even)

  abbrev orders_call : FireCall
  orders_call = fire_call (λ net. fire_checks (flat_place_count net) 6 m orders answers) fire_order (accepted n) m (items 6 orders) answers

  abbrev images_fired : FireCall
  images_fired = fire_call (λ f. fire_checks (length f.initial) 5 m (images n orders) answers) fire_image (accepted (unfolded n)) m (items 5 (images n orders)) answers

  -- and fire alike
  fired_alike : fire_images (flat_file n) m (images n orders) answers ≡ as_rows orders_call
  unfolding fire_images
  fired_alike = rw (alike n within-limits).reads_back (go (judged (fire_checks (flat_place_count n) 6 m orders answers)))
    where
      go : Judged (fire_checks (flat_place_count n) 6 m orders answers) → images_fired ≡ as_rows orders_call
      go (all_pass p) =
          let fits = eqb-true (length m) (flat_place_count n) (first_holds p) in
          let l = run (fire_order n) m (items 6 orders) in
          rw (
            called_all (λ f. fire_checks (length f.initial) 5 m (images n orders) answers) fire_image (unfolded n) m (items 5 (images n orders)) answers (subst Permits (sym same_checks) p),
            called_all (λ net. fire_checks (flat_place_count net) 6 m orders answers) fire_order n m (items 6 orders) answers p,
            lists_agree n within-limits m orders fits whole,
            length-map l as_row,
            ending_as_rows m l,
            answers_as_rows l answers,
          )
      go (one_refuses k place r) =
          sym (call_stops _ _ _ m (items 5 (images n orders)) answers refl (subst (λ c. Refuses c k place) (sym same_checks) r))
          ∙ ap as_rows (call_stops _ _ _ m (items 6 orders) answers refl r)

-- the demand
pub fire_calls : FireCallsAgree
unfolding unfold_call images_call fire_orders
fire_calls s m orders answers flatOut imagesOut bytes count e f =
    writing_went (λ n. (14 when_not leb (length (flat_file n)) (length flatOut)) ∷ []) (λ n. length (flat_file n)) flat_file s flatOut e λ n reads checks is w.
    writing_went (λ n. (13 when_not eqb (length orders % 6) 0) ∷ (14 when_not leb (length orders / 6 * 5) (length imagesOut)) ∷ []) (λ n. length orders / 6) (λ n. images n orders) s imagesOut f
    λ n' reads' checks' is' w'.
    let same : n' ≡ n = cc in
    let whole = eqb-true (length orders % 6) 0 (first_holds checks') in
    let flat_is : take bytes (unfold_call s flatOut).out ≡ flat_file n = ap (take bytes) w ∙ front (flat_file n) flatOut is in
    let sized : length (images n' orders) ≡ count * 5 = omega (arith, images-length n' orders) in
    let images_is : take (count * 5) (images_call s orders imagesOut).out ≡ images n orders =
    ap (take (count * 5)) w' ∙ front (images n' orders) imagesOut sized ∙ ap (λ x. images x orders) same in
    ap₂ (λ x y. fire_images x m y answers) flat_is images_is ∙ fired_alike n (limits s n reads) m orders answers whole
    ∙ ap (λ o. as_rows (fire_call (λ net. fire_checks (flat_place_count net) 6 m orders answers) fire_order o m (items 6 orders) answers)) (sym reads)
