-- The marks: for each binding of a transition whose bindings do not all have rows, whether it has an effect.
use Rattle.std.specs.Prelude.{◌≡◌, ◌≤◌, ◌<◌, ◌+◌, ◌/◌, ◌%◌, if◌then◌else◌}
use Rattle.reading.specs.Basics.{ℕ, Bool, true, false, List, get_or, product}
use Rattle.net.specs.Net.{Net, sizes_of, transition_at}
use Rattle.net.specs.internal.ReaderEnums.{member}
use Rattle.bindings.specs.internal.Legal.{every_row}
use Rattle.row_numbers.specs.internal.Walked.{takes_effect, effects, entries}

-- a mark: one bit of one word of 32
abbrev pub mark_at : List ℕ → ℕ → Bool
mark_at marks k = member (get_or marks (k / 32) 0) (k % 32)

-- a binding has a row: where every binding has one it has, else its mark tells
abbrev pub has_row : Bool → List ℕ → ℕ → Bool
has_row every marks k = if every then true else mark_at marks k

-- no mark is set from a number on
abbrev pub Blank : List ℕ → ℕ → Type 0
Blank marks from = (j : ℕ) → from ≤ j → j < 65536 → mark_at marks j ≡ false

-- from a base on, the marks tell of a transition's first so many bindings; those below it are as they were, and no further one is set
pub record BindingsMarked (n : Net) (t : ℕ) (was marks : List ℕ) (base size : ℕ) : Type 0 where
  pub told : (i : ℕ) → i < size → mark_at marks (base + i) ≡ takes_effect n t i
  pub same : (j : ℕ) → j < base → mark_at marks j ≡ mark_at was j
  pub blank : Blank marks (base + size)

-- of the first so many transitions they tell those whose bindings do not all have rows, each from its first entry on
pub record Marked (n : Net) (plan marks : List ℕ) (count : ℕ) : Type 0 where
  pub told : (t i : ℕ) → t < count → every_row plan t ≡ false → i < product (sizes_of n (transition_at n t)) → mark_at marks (entries n plan t + i) ≡ takes_effect n t i

-- another table holds how many rows each of them has
pub record RowsCounted (n : Net) (rows : List ℕ) (count : ℕ) : Type 0 where
  pub row : (t : ℕ) → t < count → get_or rows t 0 ≡ effects n t (product (sizes_of n (transition_at n t)))
