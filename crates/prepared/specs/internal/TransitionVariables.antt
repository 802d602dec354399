-- The table of each transition's own variables, four slots each.
use Rattle.std.specs.Prelude.{◌≡◌, ◌≤◌, ◌<◌, ◌+◌, ◌*◌}
use Rattle.reading.specs.Basics.{ℕ, Bool, List, map, length, get_or, below, keep}
use Rattle.net.specs.Net.{Transition, Net, size_of, variables_of, transition_at}
use Rattle.net.specs.internal.ReaderEnums.{bits, size_in}

-- a transition's variables, each with the size of its set: the number times 256 and the size
abbrev pub own_of : Net → Transition → List ℕ
own_of n t = map (λ v. v * 256 + size_of n (get_or n.variables v 0)) (variables_of n t)

-- the table has them, by rising number, and 0 in the slots that are not used
pub record Owned (n : Net) (own : List ℕ) : Type 0 where
  pub slot : (t k : ℕ) → t < length n.transitions → k < 4 → get_or own (t * 4 + k) 0 ≡ get_or (own_of n (transition_at n t)) k 0

-- the entry of a variable, by tables of sizes and of sets
abbrev pub slot_of : List ℕ → List ℕ → ℕ → ℕ
slot_of sizes vars v = v * 256 + size_in sizes vars v

-- four slots from base on, which were 0, hold the variables of which a test holds, where a set of bits tells them; the other slots are kept
pub record SlotsListed (uses : ℕ) (sizes vars : List ℕ) (base : ℕ) (own after : List ℕ) : Type 0 where
  pub slots : (stands : ℕ → Bool) → uses ≡ bits stands 32 → length (keep stands (below (length vars))) ≤ 4 → ((k : ℕ) → k < 4 → get_or own (base + k) 0 ≡ 0)
      → (k : ℕ) → k < 4 → get_or after (base + k) 0 ≡ get_or (map (slot_of sizes vars) (keep stands (below (length vars)))) k 0
  pub front : (i : ℕ) → i < base → get_or after i 0 ≡ get_or own i 0
  pub back : (i : ℕ) → base + 4 ≤ i → get_or after i 0 ≡ get_or own i 0
