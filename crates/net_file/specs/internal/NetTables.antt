-- What the reading of a whole net file tells, and what its tables hold.
use Rattle.std.specs.Prelude.{◌≡◌, ◌≤◌, ◌<◌, Result, Ok, Err}
use Rattle.reading.specs.Basics.{ℕ, List, length, get_or, take, replicate}
use Rattle.reading.specs.Reading.{accepted, refused}
use Rattle.reading.specs.Refusals.{number_of}
use Rattle.reading.specs.declared.refusal.Refusal.{Refusal}
use Rattle.net.specs.Net.{Net, place_at, binding_space, scope}
use Rattle.net_file.specs.NetFile.{read_net}
use Rattle.net.specs.internal.ReaderEnums.{place_in}
use Rattle.net.specs.declared.PlaceSets.{PlaceSets}
use Rattle.net.specs.declared.PlaceSets.TheVariants.{One}
use Rattle.net_parts.specs.internal.Tables.{places_of, Started, Holds, count_of}
use Rattle.net_transitions.specs.internal.TransitionTables.{no_head, TransitionsHold}
use Rattle.net_file.specs.declared.file.Tables.{Tables}
use Rattle.net_file.specs.declared.file.Counts.{Counts}

-- ---- the whole net
-- the net that guards and arcs are read over: its sets, its variables and its places
abbrev pub drawn : Net → Net
drawn n = scope n.sets n.variables n.places

-- tables that hold nothing yet
abbrev pub no_tables : Tables
no_tables = record { sizes = replicate 16 0; vars = replicate 32 0; kinds = replicate 32 (One 0); starts = replicate 33 0; heads = replicate 32 no_head }

-- what the tables hold of a net, each fact by itself
pub record NetHolds (s : List ℕ) (n : Net) (t : Tables) (arcs initial : List ℕ) (c : Counts) : Type 0 where
  pub few_sets : c.sets ≤ 16
  pub few_variables : c.variables ≤ 32
  pub few_transitions : c.transitions ≤ 32
  pub sets_are : take c.sets t.sizes ≡ n.sets
  pub variables_are : take c.variables t.vars ≡ n.variables
  pub places_are : places_of (take c.places t.kinds) ≡ n.places
  pub place_is : (p : ℕ) (d : PlaceSets) → p < c.places → place_in (get_or t.kinds p d) ≡ place_at n p
  pub started : Started n n.places t.starts c.places c.total
  pub transitions_are : length n.transitions ≡ c.transitions
  pub wide : binding_space n n.transitions ≡ c.space
  pub bounded : c.space ≤ 65536
  pub holds : TransitionsHold s (drawn n) n.transitions t.heads arcs
  pub counts : Holds n n.tokens count_of t.starts initial

-- a file that is accepted: its net, and the tables over it
pub record NetHeld (s : List ℕ) (t : Tables) (arcs initial : List ℕ) (c : Counts) : Type 0 where
  pub value : Net
  pub read : read_net s ≡ accepted value
  pub holds : NetHolds s value t arcs initial c

abbrev pub NetTold : List ℕ → Tables → List ℕ → List ℕ → Result Counts Refusal → Type 0
NetTold s t arcs initial (Ok c) = NetHeld s t arcs initial c
NetTold s t arcs initial (Err r) = read_net s ≡ refused (number_of r.reason) r.place
