-- Loops over the steps of a part, once for all parts: where a loop stands in the reading of a whole part. Assumes nothing.
use Rattle.std.specs.Prelude.{◌+◌, ◌-◌}
use mathlib.Core.Path.{◌≡◌, refl, ◌∙◌}
use Prim.Native.Nat.{◌≤◌, ◌<◌}
use native.Mathlib.Omega.{arith}
use Rattle.reading.specs.Basics.{ℕ, zero, suc, List, some, none, length, take, with}
use native.Mathlib.Numerals.{add-one}
use lib.ListN.{set, length-set}
use lib.Seq.{length-take-le, take-suc-set}
use Rattle.reading.specs.Reading.{Answer, fine, fault, Part, repeat, whole}

-- the reading from here, with fuel enough for the bytes left, gives the result
pub record Reading {A : Type 0} (s : List ℕ) (part : Part A) (a : A) (at : ℕ) (result : Answer A) : Type 0 where
  pub fuel : ℕ
  pub enough : length s ≤ at + fuel
  pub same : repeat part fuel a at ≡ result

module _ {A : Type 0} (s : List ℕ) (part : Part A) where
  pub begins : (a : A) (at : ℕ) → Reading s part a at (whole s part a at)
  begins a at = record { fuel = length s - at; enough = omega arith; same = refl }

  -- a step that goes on
  pub goes_on : {a : A} {at : ℕ} {result : Answer A} (b : A) (next : ℕ) → Reading s part a at result → at < next → next ≤ length s → part a at ≡ some (fine b next)
      → Reading s part b next result
  unfolding repeat
  goes_on {a} {at} {result} b next r lt le e = go r.fuel r.enough r.same
    where
      go : (f : ℕ) → length s ≤ at + f → repeat part f a at ≡ result → Reading s part b next result
      go zero p q = absurd (omega arith)
      go (suc f) p q = record { fuel = f; enough = omega arith; same = rw e at q }

  -- the step that ends the part
  pub ends : {a : A} {at : ℕ} {result : Answer A} → Reading s part a at result → part a at ≡ none → fine a at ≡ result
  unfolding repeat
  ends {a} {at} {result} r e = go r.fuel r.same
    where
      go : (f : ℕ) → repeat part f a at ≡ result → fine a at ≡ result
      go zero q = q
      go (suc f) q = rw e at q

  -- the step that finds a fault
  pub stops : {a : A} {at : ℕ} {result : Answer A} {k p : ℕ} → Reading s part a at result → at < length s → part a at ≡ some (fault k p) → fault k p ≡ result
  unfolding repeat
  stops {a} {at} {result} {k} {p} r lt e = go r.fuel r.enough r.same
    where
      go : (f : ℕ) → length s ≤ at + f → repeat part f a at ≡ result → fault k p ≡ result
      go zero h q = absurd (omega arith)
      go (suc f) h q = rw e at q

-- ---- a part whose values go one by one into the front of a lent list
pub record Filled (s : List ℕ) (part : Part (List ℕ)) (limit : ℕ) (result : Answer (List ℕ)) (lent : List ℕ) (count at : ℕ) : Type 0 where
  pub few : count ≤ limit
  pub sized : length lent ≡ limit
  pub reading : Reading s part (take count lent) at result

module _ {s : List ℕ} {part : Part (List ℕ)} {limit : ℕ} where
  module _ {result : Answer (List ℕ)} {lent : List ℕ} {count at : ℕ} (here : Filled s part limit result lent count at) where
    fills : length (take count lent) ≡ count
    fills = length-take-le count lent (omega arith)

    pub fill_goes : {x next : ℕ} → ((l : List ℕ) → length l ≡ count → part l at ≡ some (fine (with l x) next)) → count < limit → at < next → next ≤ length s
        → Filled s part limit result (set lent count x) (count + 1) next
    fill_goes {x} {next} step room lt le =
        let more : take (count + 1) (set lent count x) ≡ with (take count lent) x = rw add-one (take-suc-set lent count x (omega arith)) in
        record {
          few = omega arith;
          sized = length-set lent count x ∙ here.sized;
          reading = rw more (goes_on s part (with (take count lent) x) next here.reading lt le (step (take count lent) fills));
        }

    pub fill_ends : ((l : List ℕ) → length l ≡ count → part l at ≡ none) → fine (take count lent) at ≡ result
    fill_ends step = ends s part here.reading (step (take count lent) fills)

    pub fill_stops : {k p : ℕ} → at < length s → ((l : List ℕ) → length l ≡ count → part l at ≡ some (fault k p)) → fault k p ≡ result
    fill_stops lt step = stops s part here.reading lt (step (take count lent) fills)
