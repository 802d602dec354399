-- Passes over a row's arcs, one arc a turn. Assumes nothing.
use Rattle.std.specs.Prelude.{◌+◌, ◌-◌, ◌<◌, ◌||◌, ◌∷◌, if◌then◌else◌, Option, Some, None}
use Rattle.std.specs.List.{list_any, position_or_len}
use Rattle.std.specs.Option.{unwrap_or}
use Rattle.std.proofs.lemmas.List.Sums.{prefix_len-le-length}
use Rattle.std.proofs.lemmas.List.{take_all}
use Rattle.std.proofs.Math.Seq.{drop-cons}
use Rattle.std.proofs.Common.{add-one, one-add, length-drop}
use mathlib.Core.Path.{◌≡◌, refl, sym, ap, ◌∙◌, subst}
use native.Mathlib.Omega.{arith}
use Prim.Native.Nat.{◌≤◌}
use borrow.Author.Tests.{le-ltb, ltb-false, leb-true, leb-false}
use Rattle.reading.specs.Basics.{ℕ, Bool, true, false, not, ltb, leb, List, [], length, get_or, take, drop, find, any}
use Rattle.firing.specs.Firing.{capacity}
use Rattle.firing.specs.Arcs.{Arc, Rising, none, more, weight_in}
use Rattle.firing.specs.internal.Steps.{spilling, Sought, changed_by, changed}
use Rattle.firing.proofs.Rows.{weight_hit, weight_skip, weight-below}

-- ---- a test of some element
pub any_is : {A : Type 0} (t : A → Bool) (l : List A) → list_any t l ≡ any t l
unfolding any
any_is t [] = refl
any_is t (a ∷ l) = ap (λ b. t a || b) (any_is t l)

-- ---- rising arcs
-- from any place before the first on
pub from_0 : {n from : ℕ} {l : List Arc} → Rising n from l → Rising n 0 l
from_0 none = none
from_0 (more f k w r) = more (omega arith) k w r

-- from the first's place on, and without the first
rising_here : {n from p : ℕ} {a : Arc} {l : List Arc} → Rising n from (a ∷ l) → p ≤ a.place → Rising n p (a ∷ l)
rising_here (more f i w r) h = more h i w r

rising_on : {n from : ℕ} {a : Arc} {l : List Arc} → Rising n from (a ∷ l) → Rising n 0 l
rising_on (more f i w r) = from_0 r

-- ---- looking for an arc
-- those in front that stand below p have no weight at p or a later place
pub sought_at : (l : List Arc) (p : ℕ) → Sought l p (drop (position_or_len (λ a. leb p a.place) l) l)
sought_at [] p = record { passed = λ q h. refl; rises = λ n r. none; stopped = λ other h. absurd (omega arith) }
sought_at (a ∷ l) p = go (leb p a.place) refl (sought_at l p)
  where
    go : (t : Bool) → leb p a.place ≡ t → Sought l p (drop (position_or_len (λ a. leb p a.place) l) l)
        → Sought (a ∷ l) p (drop (if not t then 1 + position_or_len (λ a. leb p a.place) l else 0) (a ∷ l))
    go true e later = record { passed = λ q h. refl; rises = λ n r. rising_here r (leb-true p a.place e); stopped = λ other h. leb-true p a.place e }
    go false e later =
        let below : a.place < p = leb-false p a.place e in
        rw one-add
        (record {
          passed = λ q h. weight_skip a l q (λ z. omega arith) ∙ later.passed q h;
          rises = λ n r. later.rises n (rising_on r);
          stopped = later.stopped;
        })

-- the same from what a search for the first of the others tells, or the end
pub sought : (l : List Arc) (p : ℕ) {o : Option ℕ} {n : ℕ}
    → o ≡ (if ltb (position_or_len (λ a. leb p a.place) l) (length l) then Some (position_or_len (λ a. leb p a.place) l) else None)
    → n ≡ unwrap_or o (length l) → Sought l p (take (length l - n) (drop n l))
sought l p {n = n} e u = rw (take_all {A = Arc} (length l - n) (drop n l) (omega (arith, length-drop n l)), is) (sought_at l p)
  where
    first : ℕ
    first = position_or_len (λ a. leb p a.place) l

    go : (t : Bool) → ltb first (length l) ≡ t → unwrap_or (if t then Some first else None) (length l) ≡ first
    go true k = refl
    go false k = omega (arith, ltb-false first (length l) k, prefix_len-le-length (λ a. not (leb p a.place)) l)

    is : n ≡ first
    is = u ∙ ap (λ x. unwrap_or x (length l)) e ∙ go (ltb first (length l)) refl

-- ---- the weight at a place
pub weight_none : (l : List Arc) (p : ℕ) → length l < 1 → 0 ≡ weight_in l p
unfolding weight_in find
weight_none [] p h = refl
weight_none (a ∷ l) p h = absurd (omega arith)

pub weight_here : (l : List Arc) (p : ℕ) (other : Arc) → 1 ≤ length l → (get_or l 0 other).place ≡ p → (get_or l 0 other).weight ≡ weight_in l p
weight_here [] p other h e = absurd (omega arith)
weight_here (a ∷ l) p other h e = sym (weight_hit a l p e)

pub weight_above : {n : ℕ} (l : List Arc) (p : ℕ) (other : Arc) → Rising n p l → ((get_or l 0 other).place ≡ p → ⊥) → 0 ≡ weight_in l p
weight_above [] p other none h = weight_none [] p (omega arith)
weight_above (a ∷ l) p other (more f i w r) h = sym (weight_skip a l p h ∙ weight-below p r (omega arith))

-- ---- a change by every arc
module _ (f : ℕ → ℕ → ℕ) (arcs : List Arc) (m : List ℕ) where
  pub change_on : (i : ℕ) (other : Arc) → i < length arcs → changed f (drop i arcs) m ≡ changed f (drop (i + 1) arcs) (changed_by f (get_or arcs i other) m)
  unfolding changed
  change_on i other h = rw (drop-cons arcs i other h, add-one)

  pub change_past : (i : ℕ) → length arcs ≤ i → changed f (drop i arcs) m ≡ m
  unfolding changed
  change_past i h = go (drop i arcs) (omega (arith, length-drop i arcs))
    where
      go : (l : List Arc) → length l < 1 → changed f l m ≡ m
      go [] h = refl
      go (a ∷ l) h = absurd (omega arith)

-- ---- the puts, and the takes at their places
-- a count that fits with the put fits with the take away
fits : (caps m : List ℕ) (takes : List Arc) (a : Arc) → spilling caps m [] a ≡ false → spilling caps m takes a ≡ false
unfolding weight_in find
fits caps m takes a h =
    let k = ltb-false (capacity caps a.place) (get_or m a.place 0 - 0 + a.weight) h in
    le-ltb (capacity caps a.place) (get_or m a.place 0 - weight_in takes a.place + a.weight) (omega arith)

pub none_taken : (p : ℕ) → 0 ≡ weight_in [] p
none_taken p = weight_none [] p (omega arith)

module _ (takes puts : List Arc) (caps m : List ℕ) (n : ℕ) where
  -- the puts from number i on, each with a take of the rest, tell whether some put spills
  pub record Spilling (rest : List Arc) (i : ℕ) : Type 0 where
    pub from : ℕ
    pub rising : Rising n 0 rest
    pub ahead : Rising n from (drop i puts)
    pub later : (q : ℕ) → from ≤ q → weight_in takes q ≡ weight_in rest q
    pub same : any (spilling caps m takes) puts ≡ any (spilling caps m takes) (drop i puts)

  pub spill_begins : Rising n 0 takes → Rising n 0 puts → Spilling takes 0
  spill_begins t r = record { from = 0; rising = t; ahead = r; later = λ q h. refl; same = refl }

  module _ {rest : List Arc} {i : ℕ} (s : Spilling rest i) where
    pub spill_ends : length puts ≤ i → any (spilling caps m takes) puts ≡ false
    unfolding any
    spill_ends h = s.same ∙ go (drop i puts) (omega (arith, length-drop i puts))
      where
        go : (l : List Arc) → length l < 1 → any (spilling caps m takes) l ≡ false
        go [] h = refl
        go (a ∷ l) h = absurd (omega arith)

    module _ (other : Arc) (h : i < length puts) where
      split : drop i puts ≡ get_or puts i other ∷ drop (i + 1) puts
      split = rw (drop-cons puts i other h, add-one)

      first : (s.from ≤ (get_or puts i other).place) × Rising n ((get_or puts i other).place + 1) (drop (i + 1) puts)
      first = go (subst (Rising n s.from) split s.ahead)
        where
          go : Rising n s.from (get_or puts i other ∷ drop (i + 1) puts) → (s.from ≤ (get_or puts i other).place) × Rising n ((get_or puts i other).place + 1) (drop (i + 1) puts)
          go (more f k w r) = (f, r)

      -- a put that does not spill is passed, with any takes that have no weight at its place or a later one
      passes : {rest' : List Arc} → Rising n 0 rest' → ((q : ℕ) → (get_or puts i other).place ≤ q → weight_in rest q ≡ weight_in rest' q)
          → spilling caps m takes (get_or puts i other) ≡ false → Spilling rest' (i + 1)
      unfolding any
      passes r f k =
          record {
            from = (get_or puts i other).place + 1;
            rising = r;
            ahead = first.1;
            later = λ q l. s.later q (let g = first.0 in omega arith) ∙ f q (omega arith);
            same = s.same ∙ rw (split, k);
          }

      pub spill_fits : spilling caps m [] (get_or puts i other) ≡ false → Spilling rest (i + 1)
      spill_fits k = passes s.rising (λ q l. refl) (fits caps m takes (get_or puts i other) k)

      -- tested with the take that is found
      module _ {rest' : List Arc} (sought : Sought rest (get_or puts i other).place rest') {w : ℕ}
          (weighs : (n : ℕ) → Rising n (get_or puts i other).place rest' → w ≡ weight_in rest' (get_or puts i other).place) where
        pub spill_weight : w ≡ weight_in takes (get_or puts i other).place
        spill_weight =
            weighs n (sought.rises n s.rising)
            ∙ sym (s.later (get_or puts i other).place first.0 ∙ sought.passed (get_or puts i other).place (omega arith))

        pub spill_goes : spilling caps m takes (get_or puts i other) ≡ false → Spilling rest' (i + 1)
        spill_goes k = passes (from_0 (sought.rises n s.rising)) sought.passed k

        pub spill_hit : spilling caps m takes (get_or puts i other) ≡ true → any (spilling caps m takes) puts ≡ true
        unfolding any
        spill_hit k = s.same ∙ rw (split, k)
