-- What the walk over all bindings tells: the rows among the first so many, and their numbers.
use Rattle.std.specs.Prelude.{◌≡◌, ◌≤◌, ◌<◌, ◌+◌, if◌then◌else◌, Option, Some, None, Result, Ok, Err}
use Rattle.reading.specs.Basics.{ℕ, zero, suc, Bool, true, false, List, filter_map, option_map, none, some, length, take, get_or, given, keep, below, product}
use Rattle.net.specs.Net.{Net, sizes_of, transition_at}
use Rattle.prepared.specs.internal.Drawn.{Drawn, DrawnTransition, net_of, its_net}
use Rattle.bindings.specs.Effect.{bindings, effect}
use Rattle.bindings.specs.Orders.{order_of}
use Rattle.bindings.specs.internal.Numbers.{digits}
use Rattle.bindings.specs.internal.Bindings.{numbered, its_sizes}
use Rattle.bindings.specs.internal.Legal.{every_row}
use Rattle.bindings.specs.declared.binding.Numbered.{Numbered}
use Rattle.row_numbers.specs.Unfolding.{Rowed, row_number, order_of_row}

-- ---- the rows of the first so many bindings, and their number
abbrev pub rows_among : Net → ℕ → List Rowed
rows_among n i = filter_map (λ b. option_map (λ w. record { order = order_of b; weights = w }) (effect n b)) (take i (bindings n))

abbrev pub passed : Net → ℕ → ℕ
passed n i = length (rows_among n i)

-- binding number i of a transition has an effect, and so a row
abbrev pub takes_effect : Net → ℕ → ℕ → Bool
takes_effect n t i = given (effect n (numbered n t i)) false λ w. true

-- how many of a transition's first so many bindings have an effect
abbrev pub effects : Net → ℕ → ℕ → ℕ
effects n t many = length (keep (takes_effect n t) (below many))

-- of a transition of a drawing: each of its bindings has a row, as its table tells; whether one has, and how many of the first so many
abbrev pub its_every_row : DrawnTransition → Bool
its_every_row t = every_row t.drawing.plan t.number

abbrev pub it_takes : DrawnTransition → ℕ → Bool
it_takes t i = takes_effect (its_net t) t.number i

abbrev pub its_effects : DrawnTransition → ℕ → ℕ
its_effects t many = effects (its_net t) t.number many

-- ---- row numbers
-- the order of binding number i of a transition
abbrev pub order_at : Net → ℕ → ℕ → List ℕ
order_at n t i = order_of (record { transition = t; colours = digits (sizes_of n (transition_at n t)) i })

-- the table has an entry for each binding of a transition, none where every binding has a row
abbrev pub entries_at : Bool → ℕ → ℕ
entries_at every size = if every then 0 else size

-- how many entries the first so many transitions have
unfoldable pub entries : Net → List ℕ → ℕ → ℕ
entries n plan zero = 0
entries n plan (suc t) = entries n plan t + entries_at (every_row plan t) (product (sizes_of n (transition_at n t)))

-- from a start on, the table holds the row number of each of a transition's first so many bindings
pub record Numbers (n : Net) (t : ℕ) (numbers : List ℕ) (start size : ℕ) : Type 0 where
  pub number : (i : ℕ) → i < size → get_or numbers (start + i) 0 ≡ row_number n (order_at n t i)

-- the same by counting: so many rows stand before its own
pub record NumbersFrom (n : Net) (t : ℕ) (numbers : List ℕ) (start count size : ℕ) : Type 0 where
  pub number : (i : ℕ) → i < size → get_or numbers (start + i) 0 ≡ (if takes_effect n t i then count + effects n t i else 4294967295)

-- from a start on, the row numbers of a transition's first so many bindings follow each other
pub record Follows (n : Net) (t start size : ℕ) : Type 0 where
  pub number : (i : ℕ) → i < size → start + i ≡ row_number n (order_at n t i)
  pub few : (i : ℕ) → i < size → start + i < 65536

-- another table holds the starts of the first so many transitions: where every binding has a row of its rows, else of its entries
pub record Starts (n : Net) (plan starts numbers : List ℕ) (t : ℕ) : Type 0 where
  pub rows : (u : ℕ) → u < t → every_row plan u ≡ true → Follows n u (get_or starts u 0) (product (sizes_of n (transition_at n u)))
  pub held : (u : ℕ) → u < t → every_row plan u ≡ false → Numbers n u numbers (get_or starts u 0) (product (sizes_of n (transition_at n u)))

-- ---- what the search for a row tells
-- among the bindings of a transition, rows counted from its first: the row is that of one of them, or it comes after all of its rows
abbrev pub SoughtTold : DrawnTransition → ℕ → Result ℕ ℕ → Type 0
SoughtTold t row (Ok index) = (index < product (its_sizes t)) × (it_takes t index ≡ true) × (row ≡ its_effects t index)
SoughtTold t row (Err rows) = (rows ≤ row) × (rows ≡ its_effects t (product (its_sizes t)))

-- among all
abbrev pub LocatedTold : Drawn → ℕ → Option Numbered → Type 0
LocatedTold d row (Some b) = (b.transition < length (net_of d).transitions) × (order_of_row (net_of d) row ≡ some (order_at (net_of d) b.transition b.index))
LocatedTold d row None = order_of_row (net_of d) row ≡ none
