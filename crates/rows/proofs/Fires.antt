-- What follows from the tables of an accepted net, for the calls, and from a row that was loaded to be fired. Assumes nothing.
use Rattle.std.specs.Prelude.{◌+◌, ◌/◌}
use mathlib.Core.Path.{◌≡◌, sym, ap, ◌∙◌}
use Prim.Native.Nat.{◌≤◌, ◌<◌}
use native.Mathlib.Omega.{arith}
use borrow.Author.Tests.{leb-true}
use Rattle.reading.specs.Basics.{ℕ, Bool, true, false, not, List, [], none, some, map, length, take, leb, any}
use Rattle.reading.proofs.Clash.{not_true, not_false}
use Rattle.firing.specs.Firing.{fired}
use Rattle.firing.specs.internal.RowLists.{arcs_in}
use Rattle.firing.specs.internal.Steps.{lacking}
use Rattle.firing.specs.declared.Arc.{Arc}
use Rattle.firing.proofs.Rows.{arcs_first}
use Rattle.firing.specs.declared.Ends.{Ends}
use Rattle.net.specs.Net.{Net, flat_place_count, variables_of, transition_at}
use Rattle.net_file.proofs.Limits.{limits, short}
use Rattle.bindings.specs.Effect.{legal, Binding, stands_for, weights_of, effect}
use Rattle.bindings.specs.Orders.{named, fire_order}
use Rattle.bindings.specs.internal.Bindings.{Binds, binding, fire_binding}
use Rattle.bindings.proofs.Legal.{effect-legal, effect_none}
use Rattle.prepared.specs.internal.Prepared.{Prepared}
use Rattle.rows.specs.internal.Effects.{row_slots, greatest, room, TakesLoaded}
use Rattle.rows.specs.internal.Loading.{KindLoaded, LoadsRest, RowReady}
use Rattle.rows.proofs.Needing.{room-low}
use Rattle.rows.proofs.Effects.{takes_loaded, loaded_proper, loaded_fires, takes_lack, none_lacks}

-- lists of 20,480 slots have the room for every net
pub roomy : {s plan : List ℕ} {n : Net} → Prepared s n plan → room s n ≤ 20480
roomy {s} {n = n} p = omega (arith, room-low s n, (limits s n p.read).flat_places_lem, short s n p.read)

-- lists of 1,024 slots have it for a net that is small
pub small_room : (s : List ℕ) (n : Net) {slots : ℕ} → greatest (map (row_slots n) n.transitions) ≤ slots → leb (slots + length s / 2) 1024 ≡ true → room s n ≤ 1024
small_room s n {slots} enough e = omega (arith, leb-true (slots + length s / 2) 1024 e)

-- ---- a binding's row loaded as far as firing it needs; whether the binding has an effect is told
-- it has none
pub none_fires : (n : Net) (b : Binding) (m : List ℕ) {r : Bool} → r ≡ legal n b → not r ≡ true → fired 2 m ≡ fire_binding n b m
none_fires n b m {r} told e = rw (effect_none n b (sym told ∙ not_true r e))

-- it has one, and its takes were loaded, of which the code tells whether one is lacking
module _ (s : List ℕ) (n : Net) (env : List ℕ) (t : ℕ) (ht : t < length n.transitions) (colours : List ℕ) (binds : Binds n (binding t colours) env)
    (m : List ℕ) (sized : length m ≡ flat_place_count n) {r : Bool} (told : r ≡ legal n (binding t colours)) (has : not r ≡ false)
    {list list' : List Arc} {end : ℕ} (x : room s n ≤ length list) (kind : KindLoaded s n env t 0 list list' end)
    {lacks : Bool} (says : lacks ≡ any (lacking m) (take end list')) where
  takes : TakesLoaded n (binding t colours) list' end
  takes = takes_loaded s n env t ht colours binds x kind

  is : effect n (binding t colours) ≡ some (weights_of n (transition_at n t) (stands_for (variables_of n (transition_at n t)) colours))
  is = effect-legal n (binding t colours) (sym told ∙ not_false r has)

  lacks_is : lacks ≡ any (lacking m) (arcs_in list' 0 end)
  lacks_is = says ∙ ap (any (lacking m)) (sym (arcs_first list' end))

  pub lack_fires : lacks ≡ true → fired 3 m ≡ fire_binding n (binding t colours) m
  lack_fires e = rw is (takes_lack takes is m [] sized (sym lacks_is ∙ e))

  -- none is, and the rest was loaded
  pub row_ready : lacks ≡ false → length list' ≡ length list → {list'' : List Arc} {ends : Ends} → LoadsRest s n env t end list' list'' ends → RowReady n (binding t colours) m list'' ends
  row_ready e kept rest =
      let l = rest colours binds (omega arith) takes in
      record {
        proper = loaded_proper l is m sized;
        there = none_lacks takes is m l (sym lacks_is ∙ e);
        fires = rw is (loaded_fires l is m sized []);
      }

-- ---- an order fired, by what it names
pub no_name : (n : Net) (order m : List ℕ) → named n order ≡ none → fired 1 m ≡ fire_order n order m
unfolding fire_order
no_name n order m e = rw e

pub names : (n : Net) (order m : List ℕ) {b : Binding} → named n order ≡ some b → fire_binding n b m ≡ fire_order n order m
unfolding fire_order
names n order m e = rw e
