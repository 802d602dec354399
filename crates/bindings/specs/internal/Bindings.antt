-- A binding by its number, colours that are a binding's, and a binding fired.
use Rattle.std.specs.Prelude.{◌≡◌}
use Rattle.reading.specs.Basics.{ℕ, true, List, [], get_or, given}
use Rattle.firing.specs.Firing.{Fired, fired, fire}
use Rattle.net.specs.Net.{Net, sizes_of, variables_of, in_transition, transition_at}
use Rattle.prepared.specs.internal.Drawn.{DrawnTransition, its_net}
use Rattle.bindings.specs.Effect.{Binding, stands_for, effect}
use Rattle.bindings.specs.internal.Numbers.{digits}

-- a transition with colours for its variables
abbrev pub binding : ℕ → List ℕ → Binding
binding t colours = record { transition = t; colours = colours }

-- binding number i of a transition
abbrev pub numbered : Net → ℕ → ℕ → Binding
numbered n t i = binding t (digits (sizes_of n (transition_at n t)) i)

-- a list of colours, one a variable, gives the variables that stand in the binding's transition its colours
abbrev pub Binds : Net → Binding → List ℕ → Type 0
Binds n b env =
    (v : ℕ) → in_transition v (transition_at n b.transition) ≡ true → get_or env v 0 ≡ stands_for (variables_of n (transition_at n b.transition)) b.colours v

-- of a transition of a drawing: the sizes of its variables' sets, its binding number i, and whether a list gives its variables that binding's colours
abbrev pub its_sizes : DrawnTransition → List ℕ
its_sizes t = sizes_of (its_net t) (transition_at (its_net t) t.number)

abbrev pub its_binding : DrawnTransition → ℕ → Binding
its_binding t i = numbered (its_net t) t.number i

abbrev pub BindsIts : DrawnTransition → ℕ → List ℕ → Type 0
BindsIts t i env = Binds (its_net t) (its_binding t i) env

-- a binding fired on the drawing: 2 where it has no effect
abbrev pub fire_binding : Net → Binding → List ℕ → Fired
fire_binding n b m = given (effect n b) (fired 2 m) λ w. fire [] w m
