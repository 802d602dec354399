-- Weights written as arcs: what the arcs give back, and that they rise. Assumes nothing.
use Rattle.std.specs.Prelude.{◌+◌, ◌∷◌, if◌then◌else◌}
use mathlib.Core.Path.{◌≡◌, refl, ap}
use mathlib.Core.Logic.{⊎_elim}
use Prim.Native.Nat.{◌≤◌, ◌<◌}
use native.Mathlib.Omega.{arith}
use native.Mathlib.Nat.{eq-or-lt_of_le}
use borrow.Author.Tests.{ltb-true, ltb-false, eq-eqb, ne_eqb}
use Rattle.reading.specs.Basics.{ℕ, zero, suc, Bool, true, false, List, map, Option, none, ltb, eqb, given, numbers_from, keep, find}
use Rattle.firing.specs.Firing.{Weights}
use Rattle.firing.specs.Arcs.{Arc, weight_in, weights, arcs_of, row_of, Rising, none, more, Proper}
use Rattle.firing.proofs.Agree.{Agree}

-- the arcs from a place on
abbrev arcs_from : (ℕ → ℕ) → ℕ → ℕ → List Arc
arcs_from w a n = keep (λ arc. ltb 0 arc.weight) (map (λ p. record { place = p; weight = w p }) (numbers_from a n))

abbrev at : ℕ → List Arc → Option Arc
at p arcs = find (λ arc. eqb arc.place p) arcs

module _ (w : ℕ → ℕ) where
  -- no arc stands at a lower place
  none_before : (p a n : ℕ) → p < a → at p (arcs_from w a n) ≡ none
  unfolding find keep numbers_from
  none_before p a zero lt = refl
  none_before p a (suc n) lt = go (ltb 0 (w a)) (none_before p (a + 1) n (omega arith))
    where
      go : (t : Bool) → at p (arcs_from w (a + 1) n) ≡ none → at p (if t then record { place = a; weight = w a } ∷ arcs_from w (a + 1) n else arcs_from w (a + 1) n) ≡ none
      go true ih = rw (ne_eqb a p (λ e. omega arith)) ih
      go false ih = ih

  -- the arcs give each weight back
  given_back : (p a n : ℕ) → a ≤ p → p < a + n → given (at p (arcs_from w a n)) 0 (λ arc. arc.weight) ≡ w p
  unfolding find keep numbers_from
  given_back p a zero le lt = absurd (omega arith)
  given_back p a (suc n) le lt =
      ⊎_elim (λ e. first e (ltb 0 (w a)) refl) (λ h. later h (ltb 0 (w a)) (given_back p (a + 1) n (omega arith) (omega arith))) (eq-or-lt_of_le le)
    where
      first : a ≡ p → (t : Bool) → ltb 0 (w a) ≡ t
          → given (at p (if t then record { place = a; weight = w a } ∷ arcs_from w (a + 1) n else arcs_from w (a + 1) n)) 0 (λ arc. arc.weight) ≡ w p
      first e true q = rw (eq-eqb a p e) (ap w e)
      first e false q = rw (none_before p (a + 1) n (omega arith)) (omega (arith, ltb-false 0 (w a) q, ap w e))

      later : a < p → (t : Bool) → given (at p (arcs_from w (a + 1) n)) 0 (λ arc. arc.weight) ≡ w p
          → given (at p (if t then record { place = a; weight = w a } ∷ arcs_from w (a + 1) n else arcs_from w (a + 1) n)) 0 (λ arc. arc.weight) ≡ w p
      later h true ih = rw (ne_eqb a p (λ e. omega arith)) ih
      later h false ih = ih

  -- from the first place on
  pub weight_back : (n p : ℕ) → p < n → weight_in (arcs_of n w) p ≡ w p
  unfolding weight_in
  weight_back n p lt = given_back p 0 n (omega arith) (omega arith)

-- the row of some weights gives them back at every flat place
pub row_agrees : (n : ℕ) (w : Weights) → Agree n (weights (row_of n w)) w
row_agrees n w = record { take = λ p lt. weight_back w.take n p lt; put = λ p lt. weight_back w.put n p lt; hinder = λ p lt. weight_back w.hinder n p lt }

-- ---- the arcs rise
lower : {n a : ℕ} {l : List Arc} → Rising n (a + 1) l → Rising n a l
lower none = none
lower {n} {a} (more {a = arc} le lt above r) = let h : a ≤ arc.place = omega arith in more h lt above r

-- the arcs from a place on
rising_from : (w : ℕ → ℕ) (n a k : ℕ) → a + k ≤ n → Rising n a (arcs_from w a k)
unfolding keep numbers_from
rising_from w n a zero le = none
rising_from w n a (suc k) le = go (ltb 0 (w a)) refl (rising_from w n (a + 1) k (omega arith))
  where
    go : (t : Bool) → ltb 0 (w a) ≡ t → Rising n (a + 1) (arcs_from w (a + 1) k)
        → Rising n a (if t then record { place = a; weight = w a } ∷ arcs_from w (a + 1) k else arcs_from w (a + 1) k)
    go true q ih = more {from = a} {a = record { place = a; weight = w a }} (omega arith) (omega arith) (ltb-true 0 (w a) q) ih
    go false q ih = lower ih

-- the row of some weights is proper
pub row_proper : (n : ℕ) (w : Weights) → Proper n (row_of n w)
row_proper n w =
    record {
      takes = rising_from w.take n 0 n (omega arith);
      puts = rising_from w.put n 0 n (omega arith);
      hinders = rising_from w.hinder n 0 n (omega arith);
    }
