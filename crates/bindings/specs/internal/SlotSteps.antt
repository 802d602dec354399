-- What happens to the colour of one slot's variable; a slot that is not used has none.
use Rattle.std.specs.Prelude.{◌≡◌, ◌≤◌, ◌<◌, set, ◌+◌, ◌*◌, ◌/◌, ◌%◌, if◌then◌else◌, Option, Some, None}
use Rattle.reading.specs.Basics.{ℕ, Bool, true, false, List, length, get_or, ltb}
use Rattle.plan.specs.declared.own.Own.{Own}

-- how many colours a slot's variable has; 1 where the slot is not used
abbrev pub colours_at : Option Own → ℕ
colours_at None = 1
colours_at (Some own) = own.size

-- a slot's variable was given its next colour, or its first after the last: then the one before it goes on too
pub record TurnedOne (own : Own) (env after : List ℕ) (r : Bool) : Type 0 where
  pub room : length env ≡ 32
  pub next : get_or env own.variable 0 + 1 < own.size → (r ≡ false) × (after ≡ set env own.variable (get_or env own.variable 0 + 1))
  pub last : own.size ≤ get_or env own.variable 0 + 1 → (r ≡ true) × (after ≡ set env own.variable 0)

abbrev pub Turned : Option Own → List ℕ → List ℕ → Bool → Type 0
Turned None env after r = (r ≡ true) × (after ≡ env)
Turned (Some own) env after r = TurnedOne own env after r

-- a slot's variable went on by so many colours, going round its set r times; a slot that is not used hands them on
pub record SkippedOne (own : Own) (many : ℕ) (env after : List ℕ) (r : ℕ) : Type 0 where
  pub room : length env ≡ 32
  pub stored : after ≡ set env own.variable ((get_or env own.variable 0 + many) % own.size)
  pub rounds : get_or env own.variable 0 < own.size → r ≡ (get_or env own.variable 0 + many) / own.size

abbrev pub Skipped : Option Own → ℕ → List ℕ → List ℕ → ℕ → Type 0
Skipped None many env after r = (r ≡ many) × (after ≡ env)
Skipped (Some own) many env after r = SkippedOne own many env after r

-- a slot's variable was given a colour, if it is one of its set: the number of the colours so far, index before it; a slot that is not used has the colour 0
pub record GivenOne (own : Own) (colour index : ℕ) (env after : List ℕ) (r : Option ℕ) : Type 0 where
  pub room : length env ≡ 32
  pub is : r ≡ (if ltb colour own.size then Some (index * own.size + colour) else None)
  pub stored : colour < own.size → after ≡ set env own.variable colour

abbrev pub Given : Option Own → ℕ → ℕ → List ℕ → List ℕ → Option ℕ → Type 0
Given None colour index env after r = (r ≡ (if ltb colour 1 then Some index else None)) × (after ≡ env)
Given (Some own) colour index env after r = GivenOne own colour index env after r
