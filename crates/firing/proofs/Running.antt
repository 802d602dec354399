-- Lists of orders fired by a loop, calls, and the search for the first that fires, for any engine. Assumes nothing.
use Rattle.std.specs.Prelude.{◌+◌, ◌*◌, ◌/◌, ◌∷◌, ◌++◌, if◌then◌else◌}
use mathlib.Core.Path.{◌≡◌, refl, sym, ap, ◌∙◌}
use Prim.Native.Nat.{◌≤◌, ◌<◌}
use native.Mathlib.Omega.{arith}
use native.Mathlib.Numerals.{add-one}
use native.Mathlib.Nat.{add-zero, zero-add}
use borrow.Author.Tests.{lt-ltb, le-ltb}
use lib.ListN.{set, length-append, length-set, length-map}
use lib.Seq.{drop-cons, take_all, length-take-le, set_at, append_snoc, get_or-take, get_or-drop}
use Rattle.reading.specs.Basics.{ℕ, zero, suc, Bool, true, false, List, [], map, some, length, take, drop, get_elem?, with, numbers_from, below, eqb, byte_at, word_at, long_at, items, over}
use Rattle.reading.specs.Reading.{Outcome, accepted, refused, CallCheck}
use Rattle.reading.proofs.Lists.{below_at, at_map, length-below, below_is}
use Rattle.reading.proofs.Permits.{Permits, Refuses, permitting, refusing_at}
use Rattle.firing.specs.Firing.{Fired, fired, run, ending, First, found, nothing, one_more, first}
use Rattle.firing.specs.Calls.{FireCall, fire_call, first_call}
use Rattle.firing.specs.internal.Loops.{Ran, stopped_at}

-- ---- lists
-- the first i and the one after them
pub take-with : {A : Type 0} (l : List A) (i : ℕ) (a : A) → get_elem? l i ≡ some a → take (i + 1) l ≡ with (take i l) a
take-with {A} l i a e = rw add-one (go l i e)
  where
    go : (l : List A) (i : ℕ) → get_elem? l i ≡ some a → take (suc i) l ≡ with (take i l) a
    go [] i e = let z : ◌≡◌ {A = ℕ} 0 1 = cc in absurd (omega arith)
    go (x ∷ l) zero e = let z : x ≡ a = cc in rw z
    go (x ∷ l) (suc i) e = ap (λ (t : List A). x ∷ t) (go l i e)

-- the list round it
pub split_here : {A : Type 0} (l : List A) (i : ℕ) (a : A) → get_elem? l i ≡ some a → l ≡ take i l ++ (a ∷ drop (i + 1) l)
split_here {A} l i a e = rw add-one (go l i e)
  where
    go : (l : List A) (i : ℕ) → get_elem? l i ≡ some a → l ≡ take i l ++ (a ∷ drop (suc i) l)
    go [] i e = let z : ◌≡◌ {A = ℕ} 0 1 = cc in absurd (omega arith)
    go (x ∷ l) zero e = let z : x ≡ a = cc in rw z
    go (x ∷ l) (suc i) e = ap (λ (t : List A). x ∷ t) (go l i e)

map_with : {A B : Type 0} (f : A → B) (l : List A) (a : A) → map f (with l a) ≡ with (map f l) (f a)
map_with f [] a = refl
map_with f (x ∷ l) a = ap (λ (t : List _). f x ∷ t) (map_with f l a)

-- ---- the items of a list, so many bytes each
module _ (width : ℕ) (bytes : List ℕ) where
  abbrev pub item : ℕ → List ℕ
  item i = take width (drop (i * width) bytes)

  pub length-items : length (items width bytes) ≡ length bytes / width
  length-items = length-map (below (length bytes / width)) item ∙ length-below (length bytes / width)

  pub item_at : (i : ℕ) → i < length bytes / width → get_elem? (items width bytes) i ≡ some (item i)
  item_at i h = at_map item (below (length bytes / width)) i (below_is (length bytes / width) i h)

  -- the numbers in an item stand in the whole list
  pub item_byte : (i k : ℕ) → k < width → byte_at (item i) k ≡ byte_at bytes (i * width + k)
  item_byte i k h = get_or-take width (drop (i * width) bytes) k 0 h ∙ get_or-drop (i * width) bytes k 0

  pub item_word : (i k : ℕ) → k + 1 < width → word_at (item i) k ≡ word_at bytes (i * width + k)
  item_word i k h =
      let e : i * width + (k + 1) ≡ i * width + k + 1 = omega arith in
      rw (item_byte i k (omega arith), item_byte i (k + 1) h, e)

  pub item_long : (i k : ℕ) → k + 3 < width → long_at (item i) k ≡ long_at bytes (i * width + k)
  item_long i k h =
      let e : i * width + (k + 2) ≡ i * width + k + 2 = omega arith in
      let low = item_word i k (omega arith) in
      let high : word_at (item i) (k + 2) ≡ word_at bytes (i * width + k + 2) = item_word i (k + 2) (omega arith) ∙ ap (word_at bytes) e in
      omega arith

-- ---- one turn after another
module _ {Order : Type 0} (turn : Order → List ℕ → Fired) where
  pub length_run : (m : List ℕ) (l : List Order) → length (run turn m l) ≡ length l
  unfolding run
  length_run m [] = refl
  length_run m (o ∷ l) = ap suc (length_run (turn o m).marking l)

  -- one order more meets what the others left
  pub run-with : (m : List ℕ) (l : List Order) (o : Order) → run turn m (with l o) ≡ with (run turn m l) (turn o (ending m (run turn m l)))
  unfolding run ending
  run-with m [] o = refl
  run-with m (x ∷ l) o = ap (λ (t : List Fired). turn x m ∷ t) (run-with (turn x m).marking l o)

pub ending-with : (m : List ℕ) (l : List Fired) (f : Fired) → ending m (with l f) ≡ f.marking
unfolding ending
ending-with m [] f = refl
ending-with m (x ∷ l) f = ending-with x.marking l f

-- one more stored behind what is written
pub over-set : (written lent : List ℕ) (i a : ℕ) → length written ≡ i → i < length lent → set (over written lent) i a ≡ over (with written a) lent
over-set written lent i a n h =
    let e : length (with written a) ≡ suc i = rw (← n) (length-append written (a ∷ []) ∙ add-one (length written)) in
    rw (e, n, drop-cons lent i 0 h, set_at written _ _ a i n, append_snoc)

-- ---- the loop that fires a list in turn, on the marking in place, and stores the answers
-- `first` is the marking handed in, `old` the lent answers as they were; i orders are fired
pub record Running {Order : Type 0} (turn : Order → List ℕ → Fired) (orders : List Order) (first old m answers : List ℕ) (i : ℕ) : Type 0 where
  pub counts : m ≡ ending first (run turn first (take i orders))
  pub told : answers ≡ over (map (λ f. f.answer) (run turn first (take i orders))) old
  pub same_m : length m ≡ length first
  pub same_a : length answers ≡ length old
  pub most : i ≤ length orders

module _ {Order : Type 0} (turn : Order → List ℕ → Fired) (orders : List Order) (first old : List ℕ) where
  pub run_begin : Running turn orders first old first old 0
  unfolding run ending
  run_begin = record { counts = refl; told = refl; same_m = refl; same_a = refl; most = omega arith }

  module _ {m answers : List ℕ} {i : ℕ} (here : Running turn orders first old m answers i) where
    pub run_turn : {order : Order} (a : ℕ) (m' : List ℕ) → get_elem? orders i ≡ some order → length orders ≤ length old
        → fired a m' ≡ turn order m → length m' ≡ length m → Running turn orders first old m' (set answers i a) (i + 1)
    run_turn {order} a m' is room e len =
        let lt = below_at orders i is in
        let so : List Fired = run turn first (take i orders) in
        let before : List ℕ = map (λ f. f.answer) so in
        let f : Fired = turn order (ending first so) in
        let more : run turn first (take (i + 1) orders) ≡ with so f = rw (take-with orders i order is, run-with turn first (take i orders) order) in
        let this : fired a m' ≡ f = e ∙ ap (turn order) here.counts in
        let many : length before ≡ i = length-map so (λ f. f.answer) ∙ length_run turn first (take i orders) ∙ length-take-le i orders (omega arith) in
        let stored : set answers i a ≡ over (with before a) old = rw here.told (over-set before old i a many (omega arith)) in
        record {
          counts = rw (more, ending-with first so f) (ap (λ (x : Fired). x.marking) this);
          told = stored ∙ rw (more, map_with (λ f. f.answer) so f) (ap (λ (x : Fired). over (with before x.answer) old) this);
          same_m = len ∙ here.same_m;
          same_a = length-set answers i a ∙ here.same_a;
          most = omega arith;
        }

    pub run_end : length orders ≤ i → Ran turn orders first old m answers
    run_end le =
        let all : take i orders ≡ orders = take_all i orders le in
        record { counts = rw all at here.counts; told = rw all at here.told; same_m = here.same_m; same_a = here.same_a }

-- the same for orders of so many bytes each, which stand in one list
module _ (turn : List ℕ → List ℕ → Fired) (width : ℕ) (bytes first old : List ℕ) {m answers : List ℕ} {i : ℕ} (here : Running turn (items width bytes) first old m answers i) where
  pub run_item : (a : ℕ) (m' : List ℕ) → i < length bytes / width → length bytes / width ≤ length old
      → fired a m' ≡ turn (item width bytes i) m → length m' ≡ length m → Running turn (items width bytes) first old m' (set answers i a) (i + 1)
  run_item a m' lt room e len =
      let n = length-items width bytes in
      run_turn turn (items width bytes) first old here a m' (item_at width bytes i lt) (omega arith) e len

  pub run_items_end : length bytes / width ≤ i → Ran turn (items width bytes) first old m answers
  run_items_end le = let n = length-items width bytes in run_end turn (items width bytes) first old here (omega arith)

-- ---- the call that fires a list
abbrev pub called : Outcome ℕ → List ℕ → List ℕ → FireCall
called result m answers = record { result = result; marking = m; answers = answers }

module _ {Net Order : Type 0} (checks : Net → List CallCheck) (turn : Net → Order → List ℕ → Fired) (read : Outcome Net) (m : List ℕ) (orders : List Order) (answers : List ℕ) where
  -- the file is refused
  pub call_refused : {k p : ℕ} → read ≡ refused k p → called (refused k p) m answers ≡ fire_call checks turn read m orders answers
  unfolding fire_call
  call_refused e = rw e

  module _ {net : Net} (is : read ≡ accepted net) where
    -- some check refuses
    pub call_stops : {k p : ℕ} → Refuses (checks net) k p → called (refused k p) m answers ≡ fire_call checks turn read m orders answers
    unfolding fire_call
    call_stops r = rw (is, refusing_at (accepted net) r)

    -- all pass, and all orders are fired
    pub call_done : Permits (checks net) → {count : ℕ} → length orders ≡ count → {m' answers' : List ℕ} → Ran (turn net) orders m answers m' answers'
        → called (accepted count) m' answers' ≡ fire_call checks turn read m orders answers
    unfolding fire_call
    call_done p many ran = rw (is, permitting (accepted net) p, length_run (turn net) m orders, many, ran.counts, ran.told)

-- ---- the search for the first that passes a test
-- what a search tells, after so many that fail
abbrev pub after : {A : Type 0} → ℕ → First A → First A
after n (found a tried) = found a (n + tried)
after n (nothing tried) = nothing (n + tried)

after_none : {A : Type 0} (x : First A) → x ≡ after 0 x
after_none (found a tried) = ap (found a) (sym (zero-add tried))
after_none (nothing tried) = ap nothing (sym (zero-add tried))

after_more : {A : Type 0} (n : ℕ) (x : First A) → one_more (after n x) ≡ after (n + 1) x
after_more n (found a tried) = let e : n + tried + 1 ≡ n + 1 + tried = omega arith in ap (found a) e
after_more n (nothing tried) = let e : n + tried + 1 ≡ n + 1 + tried = omega arith in ap nothing e

-- behind some that all fail stands the rest
pub first_past : {A : Type 0} (test : A → Bool) (seen rest : List A) (n : ℕ) → first test seen ≡ nothing n → first test (seen ++ rest) ≡ after n (first test rest)
unfolding first
first_past test [] rest n e = let z : n ≡ 0 = cc in rw z (after_none (first test rest))
first_past {A} test (x ∷ seen) rest n e = go (test x) (first test seen) refl e (first_past test seen rest)
  where
    go : (t : Bool) (f : First A) → first test seen ≡ f → (if t then found x 1 else one_more f) ≡ nothing n
        → ((k : ℕ) → first test seen ≡ nothing k → first test (seen ++ rest) ≡ after k (first test rest))
        → (if t then found x 1 else one_more (first test (seen ++ rest))) ≡ after n (first test rest)
    go true f q e ih = let z : ◌≡◌ {A = ℕ} 0 1 = cc in absurd (omega arith)
    go false (found a k) q e ih = let z : ◌≡◌ {A = ℕ} 0 1 = cc in absurd (omega arith)
    go false (nothing k) q e ih = let z : n ≡ k + 1 = cc in rw (z, ih k q) (after_more k (first test rest))

-- none of the first i passes
pub record Searching {A : Type 0} (test : A → Bool) (l : List A) (i : ℕ) : Type 0 where
  pub none : first test (take i l) ≡ nothing i
  pub most : i ≤ length l

module _ {A : Type 0} (test : A → Bool) (l : List A) where
  pub search_begin : Searching test l 0
  unfolding first
  search_begin = record { none = refl; most = omega arith }

  module _ {i : ℕ} (here : Searching test l i) where
    -- number i fails too, passes, or there is none
    pub search_step : (a : A) → get_elem? l i ≡ some a → test a ≡ false → Searching test l (i + 1)
    unfolding first
    search_step a is e =
        let lt = below_at l i is in
        record { none = rw (take-with l i a is, first_past test (take i l) (a ∷ []) i here.none, e); most = omega arith }

    pub search_found : (a : A) → get_elem? l i ≡ some a → test a ≡ true → first test l ≡ found a (i + 1)
    unfolding first
    search_found a is e = ap (first test) (split_here l i a is) ∙ rw (first_past test (take i l) (a ∷ drop (i + 1) l) i here.none, e)

    pub search_none : length l ≤ i → first test l ≡ nothing (length l)
    search_none le = let n : i ≡ length l = omega (arith, here.most) in rw (← n) (rw (take_all i l le) at here.none)

-- where a search among the numbers below n stopped
pub stopped_in : (n i : ℕ) → i < n → stopped_at n i ≡ found i (i + 1)
stopped_in n i lt = rw (lt-ltb i n lt)

pub stopped_out : (n i : ℕ) → n ≤ i → stopped_at n i ≡ nothing n
stopped_out n i le = rw (le-ltb i n le)

-- the same for the numbers below n
module _ (test : ℕ → Bool) (n : ℕ) {i : ℕ} (here : Searching test (below n) i) where
  pub below_step : i < n → test i ≡ false → Searching test (below n) (i + 1)
  below_step lt e = search_step test (below n) here i (below_is n i lt) e

  pub below_found : i < n → test i ≡ true → first test (below n) ≡ found i (i + 1)
  below_found lt e = search_found test (below n) here i (below_is n i lt) e

  pub below_none : n ≤ i → first test (below n) ≡ nothing n
  below_none le = let k = length-below n in search_none test (below n) here (omega arith) ∙ ap nothing k

-- a search within a search: a stretch of the list from number b on, tried by number
module _ {A : Type 0} (test : A → Bool) (l : List A) (b : ℕ) (f : ℕ → A) (probe : ℕ → Bool) where
  -- number j of the stretch, and its test
  pub record Tried (j : ℕ) : Type 0 where
    pub at : get_elem? l (b + j) ≡ some (f j)
    pub tells : test (f j) ≡ probe j

  -- it found none of the stretch up to a number, or one of it
  abbrev pub Stretch : ℕ → First ℕ → Type 0
  Stretch end (found i tried) = first test l ≡ found (f i) (b + i + 1)
  Stretch end (nothing tried) = Searching test l (b + end)

  pub stretch : (n a : ℕ) → Searching test l (b + a) → ((j : ℕ) → j < a + n → Tried j) → Stretch (a + n) (first probe (numbers_from a n))
  unfolding first numbers_from
  stretch zero a here are = rw add-zero here
  stretch (suc n) a here are = go (probe a) refl (λ next. stretch n (a + 1) next (λ j lt. are j (omega arith)))
    where
      this : Tried a
      this = are a (omega arith)

      more : (x : First ℕ) → Stretch (a + 1 + n) x → Stretch (a + suc n) (one_more x)
      more (found i tried) s = s
      more (nothing tried) s = let e : b + (a + 1 + n) ≡ b + (a + suc n) = omega arith in rw e at s

      go : (t : Bool) → probe a ≡ t → (Searching test l (b + (a + 1)) → Stretch (a + 1 + n) (first probe (numbers_from (a + 1) n)))
          → Stretch (a + suc n) (if t then found a 1 else one_more (first probe (numbers_from (a + 1) n)))
      go true e later = search_found test l here (f a) this.at (this.tells ∙ e)
      go false e later =
          let next : Searching test l (b + (a + 1)) = (let q : b + a + 1 ≡ b + (a + 1) = omega arith in rw q at (search_step test l here (f a) this.at (this.tells ∙ e))) in
          more (first probe (numbers_from (a + 1) n)) (later next)

-- ---- the call for the first that fires
module _ {Net A : Type 0} (checks : Net → List CallCheck) (candidates : Net → List A) (turn : Net → A → List ℕ → Fired) (read : Outcome Net) (m : List ℕ) where
  -- the file is refused
  pub first_refused : {k p : ℕ} → read ≡ refused k p → refused k p ≡ first_call checks candidates turn read m
  unfolding first_call
  first_refused e = rw e

  module _ {net : Net} (is : read ≡ accepted net) where
    -- some check refuses
    pub first_stops : {k p : ℕ} → Refuses (checks net) k p → refused k p ≡ first_call checks candidates turn read m
    unfolding first_call
    first_stops r = rw (is, refusing_at (accepted net) r)

    -- all pass: the one that is answered 0, or none
    pub first_is_lem : Permits (checks net) → {x : First A} → first (λ a. eqb (turn net a m).answer 0) (candidates net) ≡ x → accepted x ≡ first_call checks candidates turn read m
    unfolding first_call
    first_is_lem p e = rw (is, permitting (accepted net) p, e)
