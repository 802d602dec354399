-- What the loops of an engine promise to the calls above them.
use Rattle.std.specs.Prelude.{◌≡◌, ◌+◌, if◌then◌else◌}
use Rattle.reading.specs.Basics.{ℕ, List, map, length, ltb, over}
use Rattle.firing.specs.Firing.{Fired, run, ending, First, found, nothing}

-- a list was fired: what it left of the marking and the lent answers
pub record Ran {Order : Type 0} (turn : Order → List ℕ → Fired) (orders : List Order) (first old m answers : List ℕ) : Type 0 where
  pub counts : m ≡ ending first (run turn first orders)
  pub told : answers ≡ over (map (λ f. f.answer) (run turn first orders)) old
  pub same_m : length m ≡ length first
  pub same_a : length answers ≡ length old

-- a search among the numbers below n that stopped at i: it is found, or there is none
abbrev pub stopped_at : ℕ → ℕ → First ℕ
stopped_at n i = if ltb i n then found i (i + 1) else nothing n
