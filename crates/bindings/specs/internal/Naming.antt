-- The binding that an order names, as the code tells it.
use Rattle.std.specs.Prelude.{◌≡◌, ◌<◌, Option, Some, None}
use Rattle.reading.specs.Basics.{ℕ, List, none, some, length, product}
use Rattle.net.specs.Net.{Net, sizes_of, transition_at}
use Rattle.prepared.specs.internal.Drawn.{Drawn, net_of}
use Rattle.bindings.specs.Orders.{named}
use Rattle.bindings.specs.internal.Bindings.{Binds, numbered}
use Rattle.bindings.specs.declared.binding.Numbered.{Numbered}

-- an order names a transition's binding by its number, and a list has the colours of its variables
pub record Names (n : Net) (order : List ℕ) (t index : ℕ) (env : List ℕ) : Type 0 where
  pub stands : t < length n.transitions
  pub inside : index < product (sizes_of n (transition_at n t))
  pub is : named n order ≡ some (numbered n t index)
  pub binds : Binds n (numbered n t index) env

-- what the code says of an order
abbrev pub NamedTold : Drawn → List ℕ → List ℕ → Option Numbered → Type 0
NamedTold d order env None = named (net_of d) order ≡ none
NamedTold d order env (Some b) = Names (net_of d) order b.transition b.index env
