-- What the code that loads an effect promises.
use Rattle.std.specs.Prelude.{◌≡◌, ◌≤◌, ◌+◌, ◌/◌, Result, MatchResult}
use Rattle.reading.specs.Basics.{ℕ, false, List, [], length, any}
use Rattle.firing.specs.Firing.{fired, fire}
use Rattle.firing.specs.Arcs.{Proper, weights}
use Rattle.firing.specs.Replies.{answer_number}
use Rattle.firing.specs.internal.RowLists.{arcs_in, row_in}
use Rattle.firing.specs.internal.Steps.{lacking}
use Rattle.firing.specs.declared.Arc.{Arc}
use Rattle.firing.specs.declared.Ends.{Ends}
use Rattle.firing.specs.declared.replies.Answer.{Answer}
use Rattle.net.specs.Net.{Net, flat_place_count, transition_at}
use Rattle.evaluation.specs.internal.Evaluated.{bound}
use Rattle.runs.specs.internal.Terms.{Laid}
use Rattle.bindings.specs.Effect.{Binding}
use Rattle.bindings.specs.internal.Bindings.{Binds, binding, fire_binding}
use Rattle.rows.specs.internal.Effects.{kind_slots, room, kind_arcs, TakesLoaded, RowLoaded}

-- a transition's arcs of a kind were laid into a room's front, place by place
abbrev pub KindLoaded : List ℕ → Net → List ℕ → ℕ → ℕ → List Arc → List Arc → ℕ → Type 0
KindLoaded s n env t k room room' r =
    kind_slots n (transition_at n t) (0x16 + k) + length s / 2 ≤ length room
    → Laid (kind_arcs n (transition_at n t) (bound env) (0x16 + k) (length n.places)) room room' r

-- after the takes, which are there, the puts and hinders were
abbrev pub LoadsRest : List ℕ → Net → List ℕ → ℕ → ℕ → List Arc → List Arc → Ends → Type 0
LoadsRest s n env t end list list' r =
    (colours : List ℕ) → Binds n (binding t colours) env → room s n ≤ length list
    → TakesLoaded n (binding t colours) list end → RowLoaded n (binding t colours) list' r.takes r.puts r.hinders

-- the whole row was, whatever the guard says
abbrev pub LoadsRow : List ℕ → Net → List ℕ → ℕ → List Arc → List Arc → Ends → Type 0
LoadsRow s n env t list list' r =
    (colours : List ℕ) → Binds n (binding t colours) env → room s n ≤ length list → RowLoaded n (binding t colours) list' r.takes r.puts r.hinders

-- a row in the lent list, as the firing rule asks for one, of which no take is lacking; it fires as the binding does
pub record RowReady (n : Net) (b : Binding) (m : List ℕ) (list : List Arc) (ends : Ends) : Type 0 where
  pub proper : Proper (length m) (row_in list ends.takes ends.puts ends.hinders)
  pub there : any (lacking m) (arcs_in list 0 ends.takes) ≡ false
  pub fires : fire [] (weights (row_in list ends.takes ends.puts ends.hinders)) m ≡ fire_binding n b m

-- a binding on a marking: its row is ready to fire, or it is answered 2 or 3 without it
abbrev pub BoundTold : Net → Binding → List ℕ → List Arc → Result Ends Answer → Type 0
BoundTold n b m list r = MatchResult r (λ ends. RowReady n b m list ends)
    (λ answer. (2 ≤ answer_number answer) × (answer_number answer ≤ 3) × (fired (answer_number answer) m ≡ fire_binding n b m))

-- its row was loaded as far as firing it needs
abbrev pub LoadsBound : List ℕ → Net → List ℕ → ℕ → List ℕ → List Arc → List Arc → Result Ends Answer → Type 0
LoadsBound s n env t m list list' r =
    (colours : List ℕ) → Binds n (binding t colours) env → room s n ≤ length list → length m ≡ flat_place_count n → BoundTold n (binding t colours) m list' r
