-- Writing into a lent list, piece behind piece.
use Rattle.std.specs.Prelude.{◌≡◌, ◌+◌, ◌++◌}
use Rattle.reading.specs.Basics.{ℕ, List, length, over}

-- behind what was written over the front of the lent list stand these bytes more
pub record Appended (entry exit : List ℕ) (at next : ℕ) (bytes : List ℕ) : Type 0 where
  pub next_is : next ≡ at + length bytes
  pub is : (written old : List ℕ) → entry ≡ over written old → at ≡ length written → exit ≡ over (written ++ bytes) old
