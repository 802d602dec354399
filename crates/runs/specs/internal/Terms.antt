-- A multiset of ranks: terms, a rank with its count each, by rising rank; and one count that every other rank has.
use Rattle.std.specs.Prelude.{◌≡◌, ◌≤◌, ◌<◌, ◌+◌, ◌-◌, ◌*◌, ◌∷◌, if◌then◌else◌, Option, Some, None}
use Rattle.reading.specs.Basics.{ℕ, List, [], map, length, get_or, take, ltb, leb, eqb}
use Rattle.firing.specs.declared.Arc.{Arc}
use Rattle.arc_expressions.specs.declared.operator.Operator.{Operator}
use Rattle.arc_expressions.specs.declared.operator.Operator.TheVariants.{Plus, Minus}

-- ---- terms
-- a rank and its count
abbrev pub term : ℕ → ℕ → Arc
term rank count = record { place = rank; weight = count }

-- the count of a rank: that of its term, or the rest
unfoldable pub count_in : List Arc → ℕ → ℕ → ℕ
count_in [] rest rank = rest
count_in (a ∷ l) rest rank = if eqb a.place rank then a.weight else count_in l rest rank

-- by rising rank, from a rank on, all below a number; each count is a u16
pub data Terms (count : ℕ) : ℕ → List Arc → Type 0 where
  none : {from : ℕ} → Terms count from []
  more : {from : ℕ} {a : Arc} {l : List Arc} → from ≤ a.place → a.place < count → a.weight ≤ 65535 → Terms count (a.place + 1) l → Terms count from (a ∷ l)

-- ---- two multisets joined, rank by rank; p and q are what every other rank has
-- a term of the first among the terms of the second; go is what follows it
unfoldable pub join_one : (ℕ → ℕ → ℕ) → ℕ → ℕ → Arc → (List Arc → List Arc) → List Arc → List Arc
join_one f p q a go [] = term a.place (f a.weight q) ∷ go []
join_one f p q a go (b ∷ m) =
    if ltb a.place b.place then term a.place (f a.weight q) ∷ go (b ∷ m)
    else if ltb b.place a.place then term b.place (f p b.weight) ∷ join_one f p q a go m
    else term a.place (f a.weight b.weight) ∷ go m

unfoldable pub joined : (ℕ → ℕ → ℕ) → ℕ → ℕ → List Arc → List Arc → List Arc
joined f p q [] m = map (λ b. term b.place (f p b.weight)) m
joined f p q (a ∷ l) m = join_one f p q a (joined f p q l) m

-- a weight above 65,535 counts as 0: no expression that is read has one
abbrev pub limit : ℕ → ℕ
limit w = if leb w 65535 then w else 0

-- the sum, or the first less the second
abbrev pub join_by : Operator → ℕ → ℕ → ℕ
join_by Plus a b = limit (a + b)
join_by Minus a b = a - b

-- every count times a factor
abbrev pub times_all : ℕ → List Arc → List Arc
times_all factor l = map (λ a. term a.place (limit (factor * a.weight))) l

-- ---- a lent room
-- arcs were laid into its front, r of them
pub record Laid (arcs room room' : List Arc) (r : ℕ) : Type 0 where
  pub are : take r room' ≡ arcs
  pub many : r ≡ length arcs
  pub size : length room' ≡ length room

-- the count of a rank, where it is that of a run's first term
abbrev pub FirstCount : List Arc → ℕ → Option ℕ → Type 0
FirstCount run rank (Some w) = (0 < length run) × ((get_or run 0 (term 0 0)).place ≡ rank) × (w ≡ (get_or run 0 (term 0 0)).weight)
FirstCount run rank None = 0 < length run → (get_or run 0 (term 0 0)).place ≡ rank → ⊥

-- two runs lie joined to their sum: nothing else has a count, and the second comes after the first
pub record Apart (op : Operator) (first second : List Arc) (p q : ℕ) : Type 0 where
  pub sum : op ≡ Plus
  pub none_first : p ≡ 0
  pub none_second : q ≡ 0
  pub after : 0 < length first → 0 < length second → (get_or first (length first - 1) (term 0 0)).place < (get_or second 0 (term 0 0)).place
