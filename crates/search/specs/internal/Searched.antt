-- What the search among all orders tells.
use Rattle.std.specs.Prelude.{◌<◌, IfSome}
use Rattle.reading.specs.Basics.{ℕ, Bool, List, map, length, eqb, product}
use Rattle.firing.specs.Firing.{First, first}
use Rattle.firing.specs.Replies.{searched}
use Rattle.firing.specs.declared.replies.Searched.{Searched}
use Rattle.net.specs.Net.{Net, sizes_of, transition_at}
use Rattle.prepared.specs.internal.Drawn.{DrawnTransition, its_net}
use Rattle.bindings.specs.Effect.{bindings}
use Rattle.bindings.specs.Orders.{order_of, fire_order}
use Rattle.bindings.specs.internal.Bindings.{fire_binding, numbered, its_binding}
use Rattle.bindings.specs.declared.binding.Numbered.{Numbered}

-- whether a transition's binding number i would fire on a marking
abbrev pub fires_its : DrawnTransition → List ℕ → ℕ → Bool
fires_its t m = λ i. eqb (fire_binding (its_net t) (its_binding t i) m).answer 0

-- the first order of a net that would fire on a marking
abbrev pub first_fires : Net → List ℕ → First (List ℕ)
first_fires n m = first (λ order. eqb (fire_order n order m).answer 0) (map order_of (bindings n))

-- what was found, by its order
abbrev pub search_told : Net → Searched Numbered → First (List ℕ)
search_told n s = searched (λ b. order_of (numbered n b.transition b.index)) s

-- and it is a binding
abbrev pub SearchWithin : Net → Searched Numbered → Type 0
SearchWithin n s = IfSome s.found (λ b. (b.transition < length n.transitions) × (b.index < product (sizes_of n (transition_at n b.transition))))
