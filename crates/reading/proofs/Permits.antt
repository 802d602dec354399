-- The checks of a call: all pass, or the first that has a place refuses. Assumes nothing.
use Rattle.std.specs.Prelude.{◌∷◌, if◌then◌else◌}
use mathlib.Core.Path.{◌≡◌, refl}
use native.Mathlib.Omega.{arith}
use Rattle.reading.specs.Basics.{ℕ, Bool, true, false, List, [], Option, none, some}
use Rattle.reading.specs.Reading.{Outcome, refused, CallCheck, ◌at?◌, ◌when_not◌, refusing}

-- no check has a place
pub data Permits : List CallCheck → Type 0 where
  done : Permits []
  passes : {k : ℕ} {place : Option ℕ} {checks : List CallCheck} → place ≡ none → Permits checks → Permits ((k at? place) ∷ checks)

-- the first that has one
pub data Refuses : List CallCheck → ℕ → ℕ → Type 0 where
  refuses : {k p : ℕ} {place : Option ℕ} {checks : List CallCheck} → place ≡ some p → Refuses ((k at? place) ∷ checks) k p
  later : {k n p : ℕ} {place : Option ℕ} {checks : List CallCheck} → place ≡ none → Refuses checks n p → Refuses ((k at? place) ∷ checks) n p

-- checks of a condition: place 0 where it fails
abbrev place_of : Bool → Option ℕ
place_of condition = if condition then none else some 0

no_place : {condition : Bool} → condition ≡ true → place_of condition ≡ none
no_place e = rw e

place_0 : {condition : Bool} → condition ≡ false → place_of condition ≡ some 0
place_0 e = rw e

pub holds : {k : ℕ} {condition : Bool} {checks : List CallCheck} → condition ≡ true → Permits checks → Permits ((k when_not condition) ∷ checks)
holds e p = passes (no_place e) p

pub fails : {k : ℕ} {condition : Bool} {checks : List CallCheck} → condition ≡ false → Refuses ((k when_not condition) ∷ checks) k 0
fails e = refuses (place_0 e)

pub behind : {k n p : ℕ} {condition : Bool} {checks : List CallCheck} → condition ≡ true → Refuses checks n p → Refuses ((k when_not condition) ∷ checks) n p
behind e r = later (no_place e) r

-- where all pass, the first condition holds
first_place : {k : ℕ} {place : Option ℕ} {checks : List CallCheck} → Permits ((k at? place) ∷ checks) → place ≡ none
first_place (passes e p) = e

pub first_holds : {k : ℕ} {condition : Bool} {checks : List CallCheck} → Permits ((k when_not condition) ∷ checks) → condition ≡ true
first_holds {condition = condition} p = go condition (first_place p)
  where
    go : (t : Bool) → place_of t ≡ none → t ≡ true
    go true e = refl
    go false e = let z : ◌≡◌ {A = ℕ} 0 1 = cc in absurd (omega arith)

-- what is given then
module _ {A : Type 0} (otherwise : Outcome A) where
  pub permitting : {checks : List CallCheck} → Permits checks → refusing checks otherwise ≡ otherwise
  unfolding refusing
  permitting done = refl
  permitting (passes e p) = rw e (permitting p)

  pub refusing_at : {checks : List CallCheck} {k p : ℕ} → Refuses checks k p → refusing checks otherwise ≡ refused k p
  unfolding refusing
  refusing_at (refuses e) = rw e
  refusing_at (later e r) = rw e (refusing_at r)

-- one of the two
pub data Judged (checks : List CallCheck) : Type 0 where
  all_pass : Permits checks → Judged checks
  one_refuses : (k p : ℕ) → Refuses checks k p → Judged checks

pub judged : (checks : List CallCheck) → Judged checks
judged [] = all_pass done
judged ((k at? some p) ∷ checks) = one_refuses k p (refuses refl)
judged ((k at? none) ∷ checks) = more (judged checks)
  where
    more : Judged checks → Judged ((k at? none) ∷ checks)
    more (all_pass p) = all_pass (passes refl p)
    more (one_refuses n p r) = one_refuses n p (later refl r)
