-- The firing rule, for any engine: capacities, weights and a marking; lists of orders fired in turn; the first that fires.
use Rattle.std.specs.Prelude.{◌≤◌, ◌<◌, ◌+◌, ◌-◌, ◌&&◌, ◌∷◌, if◌then◌else◌}
use Rattle.reading.specs.Basics.{ℕ, Bool, List, [], map, length, get_or, ltb, leb, below, any}

-- ---- one order
-- what an order takes, puts, and is hindered by, at each flat place; 0 where nothing is written
pub record Weights : Type 0 where
  pub take : ℕ → ℕ
  pub put : ℕ → ℕ
  pub hinder : ℕ → ℕ

-- an order's answer, and the marking after it
pub record Fired : Type 0 where
  pub answer : ℕ
  pub marking : List ℕ

abbrev pub fired : ℕ → List ℕ → Fired
fired answer m = record { answer = answer; marking = m }

-- 3: the count is below its take
abbrev pub lacks : Weights → List ℕ → ℕ → Bool
lacks w m p = ltb (get_or m p 0) (w.take p)

-- 4: the hinder weight is above 0 and not above the count
abbrev pub hindered : Weights → List ℕ → ℕ → Bool
hindered w m p = ltb 0 (w.hinder p) && leb (w.hinder p) (get_or m p 0)

-- the capacity of a flat place, from a list that may be short: 65,535 where none is set. No net sets any yet: both engines hand over the empty list
abbrev pub capacity : List ℕ → ℕ → ℕ
capacity caps p = get_or caps p 65535

-- the count after firing; 5: it passes the capacity
abbrev pub moved : Weights → List ℕ → ℕ → ℕ
moved w m p = get_or m p 0 - w.take p + w.put p

abbrev pub spills : List ℕ → Weights → List ℕ → ℕ → Bool
spills caps w m p = ltb (capacity caps p) (moved w m p)

-- no count is above its capacity: only then does 5 tell of a put, since a count above it spills where nothing is moved too
abbrev pub Kept : List ℕ → List ℕ → Type 0
Kept caps m = (p : ℕ) → p < length m → get_or m p 0 ≤ capacity caps p

-- the firing rule: the first answer that fits some flat place; only 0 changes the counts
unfoldable pub fire : List ℕ → Weights → List ℕ → Fired
fire caps w m =
    let places = below (length m) in
    if any (lacks w m) places then fired 3 m
    else if any (hindered w m) places then fired 4 m
    else if any (spills caps w m) places then fired 5 m
    else fired 0 (map (moved w m) places)

-- ---- a list of orders
-- each in turn: the first meets the marking handed in, each later one what the one before it left
unfoldable pub run : {Order : Type 0} → (Order → List ℕ → Fired) → List ℕ → List Order → List Fired
run turn m [] = []
run turn m (order ∷ orders) = turn order m ∷ run turn (turn order m).marking orders

-- the marking at the end
unfoldable pub ending : List ℕ → List Fired → List ℕ
ending m [] = m
ending m (f ∷ l) = ending f.marking l

-- ---- the first that would fire
-- the first that passes a test, or nothing; and how many were tried: one more than those before it, or all
pub data First (A : Type 0) : Type 0 where
  found : A → (tried : ℕ) → First A
  nothing : (tried : ℕ) → First A

-- trying one after another
abbrev pub one_more : {A : Type 0} → First A → First A
one_more (found a tried) = found a (tried + 1)
one_more (nothing tried) = nothing (tried + 1)

unfoldable pub first : {A : Type 0} → (A → Bool) → List A → First A
first test [] = nothing 0
first test (a ∷ l) = if test a then found a 1 else one_more (first test l)
