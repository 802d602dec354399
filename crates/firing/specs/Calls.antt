-- The calls of an engine, for any net that is read from a file: firing a list of orders, and the first that fires.
use Rattle.std.specs.Prelude.{◌/◌, ◌%◌, ◌∷◌, ◌++◌}
use Rattle.reading.specs.Basics.{ℕ, List, [], map, length, leb, eqb, over}
use Rattle.reading.specs.Reading.{Outcome, accepted, refused, on, CallCheck, ◌when_not◌, permitted}
use Rattle.firing.specs.Firing.{Fired, run, ending, First, first}

-- what a call gives that fires a list: how many orders it answered, or a refusal; and both lent lists afterwards
pub record FireCall : Type 0 where
  pub result : Outcome ℕ
  pub marking : List ℕ
  pub answers : List ℕ

-- what every call checks that is handed a marking: one count for each flat place
abbrev pub marking_checks : ℕ → List ℕ → List CallCheck
marking_checks places m = (12 when_not eqb (length m) places) ∷ []

-- and what one checks that fires a list: for orders of so many bytes and so many flat places
abbrev pub fire_checks : ℕ → ℕ → List ℕ → List ℕ → List ℕ → List CallCheck
fire_checks places width m orders answers =
    marking_checks places m
    ++ ((13 when_not eqb (length orders % width) 0)
    ∷ (14 when_not leb (length orders / width) (length answers)) ∷ [])

-- the call: its checks, how the net fires one order, what was read, the marking, the orders one by one, and the lent answers
unfoldable pub fire_call : {Net Order : Type 0} → (Net → List CallCheck) → (Net → Order → List ℕ → Fired) → Outcome Net → List ℕ → List Order → List ℕ → FireCall
fire_call checks turn read m orders answers =
    on (permitted checks read) (λ number place. record { result = refused number place; marking = m; answers = answers })
    λ net.
    let l = run (turn net) m orders in
    record { result = accepted (length l); marking = ending m l; answers = over (map (λ f. f.answer) l) answers }

-- the first of a net's candidates that is answered 0
unfoldable pub first_call : {Net A : Type 0} → (Net → List CallCheck) → (Net → List A) → (Net → A → List ℕ → Fired) → Outcome Net → List ℕ → Outcome (First A)
first_call checks candidates turn read m =
    on (permitted checks read) refused
    λ net. accepted (first (λ a. eqb (turn net a m).answer 0) (candidates net))
