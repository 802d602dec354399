-- What the parts of a table's filling leave in it.
use Rattle.std.specs.Prelude.{◌≡◌, ◌≤◌, ◌<◌, ◌+◌, Option, Some, None, Result, Ok, Err}
use Rattle.reading.specs.Basics.{ℕ, List, length, get_or}
use Rattle.reading.specs.Reading.{refused}
use Rattle.reading.specs.Refusals.{number_of}
use Rattle.reading.specs.declared.refusal.Refusal.{Refusal}
use Rattle.net.specs.Net.{Net, in_transition, transition_at}
use Rattle.net.specs.internal.ReaderEnums.{bits}
use Rattle.net_transitions.specs.internal.TransitionTables.{no_head}
use Rattle.net_transitions.specs.declared.transitions.Head.{Head}
use Rattle.net_file.specs.NetFile.{read_net}
use Rattle.net_file.specs.Limits.{Limits}
use Rattle.net_file.specs.internal.NetTables.{NetHeld}
use Rattle.net_file.specs.declared.file.Tables.{Tables}
use Rattle.net_file.specs.declared.file.Counts.{Counts}
use Rattle.plan.specs.internal.Layout.{own_in, OthersKept}
use Rattle.prepared.specs.internal.Packed.{Packed}
use Rattle.prepared.specs.internal.TransitionVariables.{Owned}
use Rattle.prepared.specs.internal.Prepared.{Prepared, InitialCounts}

-- a list stands in the table from an entry on
abbrev pub ListStands : ℕ → List ℕ → List ℕ → Type 0
ListStands from values plan = (i : ℕ) → i < length values → get_or plan (from + i) 0 ≡ get_or values i 0

-- where a guard stands, as the table has it: 0 without one
abbrev pub guard_number : Option ℕ → ℕ
guard_number None = 0
guard_number (Some at) = at

-- of each transition its variables, as bits, and where its guard stands; all other entries are kept
pub record HeadsPlaced (heads : List Head) (before plan : List ℕ) : Type 0 where
  pub uses_are : (t : ℕ) → t < 32 → get_or plan (88 + t) 0 ≡ (get_or heads t no_head).uses
  pub guards_are : (t : ℕ) → t < 32 → get_or plan (120 + t) 0 ≡ guard_number (get_or heads t no_head).guard
  pub others : OthersKept 88 64 before plan

-- sets, variables, and of each transition its variables, as bits and one by one, and where its guard stands; what stands behind them is kept
pub record ListsPlaced (sizes vars : List ℕ) (heads : List Head) (transitions : ℕ) (before plan : List ℕ) : Type 0 where
  pub sets : ListStands 8 sizes plan
  pub variables : ListStands 24 vars plan
  pub uses : (t : ℕ) → t < 32 → get_or plan (88 + t) 0 ≡ (get_or heads t no_head).uses
  pub guards : (t : ℕ) → t < 32 → get_or plan (120 + t) 0 ≡ guard_number (get_or heads t no_head).guard
  pub owned : (n : Net) → n.sets ≡ sizes → n.variables ≡ vars → Limits n → length n.transitions ≡ transitions
      → ((t : ℕ) → t < length n.transitions → (get_or heads t no_head).uses ≡ bits (λ v. in_transition v (transition_at n t)) 32) → Owned n (own_in plan)
  pub behind : (i : ℕ) → 280 ≤ i → get_or plan i 0 ≡ get_or before i 0

-- ---- the arcs
-- a file that was accepted: its net in the reader's tables, and its arcs packed
pub record ReadPacked (s : List ℕ) (t : Tables) (part initial : List ℕ) (c : Counts) : Type 0 where
  pub slots : List ℕ
  pub held : NetHeld s t slots initial c
  pub packs : Packed 32 (λ p. p) slots part c.places c.transitions

abbrev pub PackedTold : List ℕ → Tables → List ℕ → List ℕ → Result Counts Refusal → Type 0
PackedTold s t part initial (Ok c) = ReadPacked s t part initial c
PackedTold s t part initial (Err r) = read_net s ≡ refused (number_of r.reason) r.place

-- ---- the whole
-- a file that was accepted: its net, the table of it, and its initial counts
pub record Readied (s plan initial : List ℕ) : Type 0 where
  pub value : Net
  pub prepared : Prepared s value plan
  pub marked : InitialCounts value initial

abbrev pub PreparedTold : List ℕ → List ℕ → List ℕ → Result (Unit {0}) Refusal → Type 0
PreparedTold s plan initial (Ok done) = Readied s plan initial
PreparedTold s plan initial (Err r) = read_net s ≡ refused (number_of r.reason) r.place
