-- Where each thing stands in the table of a prepared net, of 3,584 entries.
use Rattle.std.specs.Prelude.{◌≡◌, ◌≤◌, ◌<◌, ◌+◌, ◌*◌, ◌/◌, ◌%◌, if◌then◌else◌, Option, Some, None}
use Rattle.reading.specs.Basics.{ℕ, Bool, List, map, length, get_or, take, drop, leb, ltb, eqb}
use Rattle.plan.specs.declared.own.Own.{Own}

-- ---- entries 0 to 7: counts
-- 0 sets, 1 variables, 2 places, 3 flat places, 4 transitions, 5 bindings, 6 the edition; a count past its limit is read as the limit
abbrev pub up_to : ℕ → ℕ → ℕ
up_to most count = if leb count most then count else most

abbrev pub flat_places_in : List ℕ → ℕ
flat_places_in plan = up_to 4096 (get_or plan 3 0)

abbrev pub transitions_in : List ℕ → ℕ
transitions_in plan = up_to 32 (get_or plan 4 0)

-- ---- 8 to 23: the sets, a size each, and above its byte what else is told of the set; 24 to 55: each variable's set; 56 to 87: what each place is like
abbrev pub low : ℕ → ℕ
low x = x % 256

unfoldable pub sets_in : List ℕ → List ℕ
sets_in plan = map low (take (get_or plan 0 0) (drop 8 plan))

unfoldable pub variables_in : List ℕ → List ℕ
variables_in plan = map low (take (get_or plan 1 0) (drop 24 plan))

unfoldable pub places_in : List ℕ → List ℕ
places_in plan = drop 56 plan

-- ---- of each transition. 88 to 119: its variables, as bits, which nothing reads again; 120 to 151: where its guard stands; 152 to 279: its variables one by one, four slots each
unfoldable pub guards_in : List ℕ → List ℕ
guards_in plan = drop 120 plan

unfoldable pub own_in : List ℕ → List ℕ
own_in plan = drop 152 plan

-- a slot of them: the variable times 256, and the size of its set; no size where the slot is not used
abbrev pub slot_variable : ℕ → ℕ
slot_variable slot = slot / 256 % 32

abbrev pub slot_size : ℕ → ℕ
slot_size slot = slot % 256

-- what is told of a slot
abbrev pub OwnTold : ℕ → Option Own → Type 0
OwnTold slot None = slot_size slot ≡ 0
OwnTold slot (Some own) = (own.variable ≡ slot_variable slot) × (own.size ≡ slot_size slot)

-- 280 to 511 are free; 512 to 3583: its arcs, three kinds of 32 entries each: 32 times where the expression stands, and the place. Behind the last of a kind is a 0.
-- An arc is told together with what its place is like, 0 where there is none
abbrev pub arc_with : List ℕ → ℕ → ℕ
arc_with places arc = if ltb arc 1 then 0 else arc / 32 * 134217728 + get_or places (arc % 32) 0

unfoldable pub packed_in : List ℕ → List ℕ
packed_in plan = map (arc_with (places_in plan)) (drop 512 plan)

-- ---- an arc, so told: where its expression stands, where its place's flat places begin, how many ranks it has, and whether it is a pair
abbrev pub expression_in : ℕ → ℕ
expression_in entry = entry / 134217728

abbrev pub start_in : ℕ → ℕ
start_in entry = entry / 16384 % 8192

abbrev pub ranks_in : ℕ → ℕ
ranks_in entry = entry / 2 % 8192

abbrev pub pair_in : ℕ → Bool
pair_in entry = eqb (entry % 2) 1

-- ---- writing
-- so many entries from a place on were written, all others are kept
pub record OthersKept (from many : ℕ) (before after : List ℕ) : Type 0 where
  pub front : (i : ℕ) → i < from → get_or after i 0 ≡ get_or before i 0
  pub back : (i : ℕ) → from + many ≤ i → get_or after i 0 ≡ get_or before i 0

-- what the entries of a list become, from a place on
pub record PlacedBy {A : Type 0} (becomes : A → ℕ → Type 0) (from : ℕ) (values : List A) (before after : List ℕ) : Type 0 where
  pub values_become : (i : ℕ) (other : A) → i < length values → becomes (get_or values i other) (get_or after (from + i) 0)
  pub others_kept : OthersKept from (length values) before after

-- the entries of a list of numbers, from a place on
pub record Placed (from : ℕ) (values before after : List ℕ) : Type 0 where
  pub values_are : (i : ℕ) → i < length values → get_or after (from + i) 0 ≡ get_or values i 0
  pub kept : OthersKept from (length values) before after
