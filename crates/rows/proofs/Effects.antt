-- The effect of a binding, from its guard and the arcs of its three kinds; and what firing its row gives. Assumes nothing.
use Rattle.std.specs.Prelude.{◌+◌, ◌/◌, ◌||◌, ◌∷◌, if◌then◌else◌}
use mathlib.Core.Path.{◌≡◌, refl, sym, ap, subst, fun_ext, ◌∙◌}
use mathlib.Core.List.Memᴰ
use Prim.Native.Nat.{◌≤◌, ◌<◌}
use native.Mathlib.Omega.{arith}
use Rattle.std.proofs.lemmas.List.{take-take}
use Rattle.reading.specs.Basics.{ℕ, Bool, true, false, List, [], Option, none, some, length, get_elem?, given, any, find, take}
use Rattle.reading.proofs.Lists.{In, here, there, in_cases}
use Rattle.firing.specs.Firing.{Weights, fired, fire}
use Rattle.firing.specs.internal.Steps.{lacking}
use Rattle.firing.specs.declared.Arc.{Arc}
use Rattle.firing.specs.Arcs.{arcs_of, row, weights, Proper}
use Rattle.firing.specs.internal.RowLists.{arcs_in, row_in}
use Rattle.firing.proofs.Rule.{fires_3}
use Rattle.firing.proofs.Agree.{fire-same}
use Rattle.firing.proofs.Weighted.{row_agrees, row_proper}
use Rattle.net.specs.Net as net
use Rattle.net.specs.Net.{Transition, Net, net, flat_place_count, arc_on, variables_of, in_guard, in_expression, in_transition, transition_at}
use Rattle.net.specs.Values.{weight}
use Rattle.evaluation.specs.internal.Evaluated.{bound}
use Rattle.net.proofs.Alike.{weight-bound}
use Rattle.runs.specs.internal.Terms.{Laid}
use Rattle.firing.proofs.Rows.{arcs_first, arcs_front}
use Rattle.runs.proofs.Laying.{behind, changed, length-behind, laid_size, laid_first, laid_second}
use Rattle.bindings.specs.Effect.{Binding, FlatPlace, stands_for, flat_places, arc_weight, effect, flat_row}
use Rattle.rows.specs.internal.Effects.{kind_slots, row_slots, room, kind_arcs, TakesLoaded, RowLoaded}
use Rattle.bindings.specs.internal.Bindings.{Binds, binding}
use Rattle.rows.specs.internal.Loading.{KindLoaded}
use Rattle.rows.proofs.Needing.{kind_low, kind_arcs_lem, row_room}
use Rattle.prepared.proofs.Starts.{start_low}
use Rattle.rows.proofs.Split.{split, kind_few}
use Rattle.bindings.proofs.Legal.{effect_weighs}

-- ---- what stands somewhere
or_left : (a b : Bool) → a ≡ true → a || b ≡ true
or_left a b e = rw e

or_right : (a b : Bool) → b ≡ true → a || b ≡ true
or_right true b e = refl
or_right false b e = e

-- an arc that is found is one of the arcs
found_in : (test : net.Arc → Bool) (l : List net.Arc) (a : net.Arc) → find test l ≡ some a → In a l
unfolding find
found_in test [] a e = let z : ◌≡◌ {A = ℕ} 0 1 = cc in absurd (omega arith)
found_in test (b ∷ l) a e = go (test b) (found_in test l a) e
  where
    go : (t : Bool) → (find test l ≡ some a → In a l) → (if t then some b else find test l) ≡ some a → In a (b ∷ l)
    go true ih q = let z : b ≡ a = cc in subst (λ x. In x (b ∷ l)) z here
    go false ih q = there (ih q)

-- a test that an element passes, some element passes
in_any : (test : net.Arc → Bool) (l : List net.Arc) (a : net.Arc) → In a l → test a ≡ true → any test l ≡ true
unfolding any
in_any test [] a m e = absurd (Memᴰ.not-nil m)
in_any test (b ∷ l) a m e = in_cases (λ q. or_left (test b) _ (ap test (sym q) ∙ e)) (λ k. or_right (test b) _ (in_any test l a k e)) m

-- ---- colours of a binding
module _ (n : Net) (t : Transition) (env other : ℕ → ℕ) (same : (v : ℕ) → in_transition v t ≡ true → env v ≡ other v) where
  -- each arc's weights
  arc_as : (kind : ℕ) (f : FlatPlace) → arc_weight n t env kind f ≡ arc_weight n t other kind f
  arc_as kind f = go (arc_on t.arcs kind f.place) refl
    where
      go : (o : Option net.Arc) → arc_on t.arcs kind f.place ≡ o → given o 0 (λ a. weight n env f.rank a.expression) ≡ given o 0 (λ a. weight n other f.rank a.expression)
      go none q = refl
      go (some a) q = weight-bound n env other f.rank a.expression
          (λ v e. same v (or_right (in_guard v t.guard) _ (in_any (λ a. in_expression v a.expression) t.arcs a (found_in _ t.arcs a q) e)))

  -- the arcs of a kind, place by place, are the row's
  kind_row : (kind : ℕ) → kind_arcs n t env kind (length n.places) ≡ arcs_of (flat_place_count n) (λ p. given (get_elem? (flat_places n) p) 0 (arc_weight n t other kind))
  kind_row kind = sym (split n t env kind) ∙ ap (λ w. arcs_of (flat_place_count n) (λ p. given (get_elem? (flat_places n) p) 0 w)) (fun_ext (arc_as kind))

-- ---- the code's results
module _ (s : List ℕ) (n : Net) (env : List ℕ) (t : ℕ) (ht : t < length n.transitions) (colours : List ℕ) (binds : Binds n (binding t colours) env) where
  -- the binding's colours
  abbrev other : ℕ → ℕ
  other = stands_for (variables_of n (transition_at n t)) colours

  -- the arcs of one kind
  abbrev arcs_of_lem : ℕ → List Arc
  arcs_of_lem kind = kind_arcs n (transition_at n t) (bound env) kind (length n.places)

  -- no more than there are flat places, and no more than their slots
  few : (kind : ℕ) → length (arcs_of_lem kind) ≤ flat_place_count n
  few kind = omega (arith, kind_few n (transition_at n t) (bound env) kind (length n.places) (omega arith), start_low n (length n.places))

  low : (kind : ℕ) → length (arcs_of_lem kind) ≤ kind_slots n (transition_at n t) kind
  low kind = kind_arcs_lem n (transition_at n t) kind (bound env) (length n.places)

  -- the room of the net is enough for the row
  wide : row_slots n (transition_at n t) + length s / 2 ≤ room s n
  wide = row_room s n t ht

  rows_of : (kind : ℕ) → arcs_of_lem kind ≡ arcs_of (flat_place_count n) (λ p. given (get_elem? (flat_places n) p) 0 (arc_weight n (transition_at n t) other kind))
  rows_of kind = kind_row n (transition_at n t) (bound env) other binds kind

  -- the takes were laid into its front
  pub takes_loaded : {list list' : List Arc} {end : ℕ} → room s n ≤ length list
      → KindLoaded s n env t 0 list list' end → TakesLoaded n (binding t colours) list' end
  takes_loaded {list' = list'} {end} x k1 =
      let first = k1 (omega (arith, wide)) in
      record {
        takes = λ w is. arcs_first list' end ∙ first.are ∙ rows_of 0x16 ∙ ap (λ w. arcs_of (flat_place_count n) w.take) (effect_weighs n (binding t colours) is);
        few = omega (arith, low 0x16, first.many);
      }

  -- the puts and hinders were laid behind the takes, one after the other
  module _ (list puts_part hinders_part : List Arc) (takes u v : ℕ) where
    abbrev with_puts : List Arc
    with_puts = changed takes list puts_part

    abbrev whole : List Arc
    whole = changed (takes + u) with_puts hinders_part

    pub effect_rest : room s n ≤ length list → takes ≤ length list
        → TakesLoaded n (binding t colours) list takes
        → KindLoaded s n env t 1 (behind takes list) puts_part u
        → KindLoaded s n env t 2 (behind (takes + u) with_puts) hinders_part v
        → RowLoaded n (binding t colours) whole takes (takes + u) (takes + u + v)
    effect_rest x le k k2 k3 =
        record {
          row = λ w is.
              let same = effect_weighs n (binding t colours) is in
              rows (arcs_front whole list 0 takes (front ∙ laid_first _ list puts_part takes u le second) ∙ k.takes w is)
              (arcs_front whole with_puts takes (takes + u) first ∙ laid_second _ list puts_part takes u le second ∙ rows_of 0x17 ∙ ap (λ w. arcs_of (flat_place_count n) w.put) same)
              (laid_second _ with_puts hinders_part (takes + u) v reach third ∙ rows_of 0x18 ∙ ap (λ w. arcs_of (flat_place_count n) w.hinder) same);
          puts_after = omega arith;
          hinders_after = omega arith;
          fits = omega (arith, k.few, kind_low n (transition_at n t) 0x16, few 0x17, few 0x18, second.many, third.many);
          inside = omega (arith, k.few, low 0x17, low 0x18, second.many, third.many);
        }
      where
        second : Laid (arcs_of_lem 0x17) (behind takes list) puts_part u
        second = k2 (omega (arith, wide, k.few, length-behind takes list))

        size : length with_puts ≡ length list
        size = laid_size _ list puts_part takes u le second

        reach : takes + u ≤ length with_puts
        reach = omega (arith, wide, k.few, low 0x17, second.many, size)

        third : Laid (arcs_of_lem 0x18) (behind (takes + u) with_puts) hinders_part v
        third = k3 (omega (arith, wide, k.few, low 0x17, second.many, size, length-behind (takes + u) with_puts))

        -- the takes and puts are kept, and so the takes alone
        first : take (takes + u) whole ≡ take (takes + u) with_puts
        first = laid_first _ with_puts hinders_part (takes + u) v reach third

        front : take takes whole ≡ take takes with_puts
        front =
            let h : takes ≤ takes + u = omega arith in
            sym (take-take takes (takes + u) whole h) ∙ ap (take takes) first ∙ take-take takes (takes + u) with_puts h

        rows : {a b c a' b' c' : List Arc} → a ≡ a' → b ≡ b' → c ≡ c' → row a b c ≡ row a' b' c'
        rows f g h = cc

-- ---- for callers: firing the row that was loaded is firing the effect
module _ {n : Net} {b : Binding} {list : List Arc} {takes puts hinders : ℕ} (l : RowLoaded n b list takes puts hinders) {w : Weights} (is : effect n b ≡ some w)
    (m : List ℕ) (sized : length m ≡ flat_place_count n) where
  -- what firing asks of a row
  pub loaded_proper : Proper (length m) (row_in list takes puts hinders)
  loaded_proper = rw (l.row w is, sized) (row_proper (flat_place_count n) w)

  -- the row's weights fire as the effect's
  pub loaded_fires : (caps : List ℕ) → fire caps (weights (row_in list takes puts hinders)) m ≡ fire caps w m
  loaded_fires caps = ap (λ r. fire caps (weights r) m) (l.row w is) ∙ fire-same caps (weights (flat_row n w)) w m (rw sized (row_agrees (flat_place_count n) w))

-- the takes alone
module _ {n : Net} {b : Binding} {list : List Arc} {end : ℕ} (k : TakesLoaded n b list end) {w : Weights} (is : effect n b ≡ some w) (m : List ℕ) where
  -- one is lacking
  pub takes_lack : (caps : List ℕ) → length m ≡ flat_place_count n → any (lacking m) (arcs_in list 0 end) ≡ true → fired 3 m ≡ fire caps w m
  takes_lack caps sized e =
      fires_3 m (flat_row n w) (rw sized (row_proper (flat_place_count n) w)) caps (ap (any (lacking m)) (sym (k.takes w is)) ∙ e)
      ∙ fire-same caps (weights (flat_row n w)) w m (rw sized (row_agrees (flat_place_count n) w))

  -- none is, nor in the whole row
  pub none_lacks : {list' : List Arc} {takes puts hinders : ℕ} → RowLoaded n b list' takes puts hinders → any (lacking m) (arcs_in list 0 end) ≡ false
      → any (lacking m) (arcs_in list' 0 takes) ≡ false
  none_lacks l e = ap (any (lacking m)) (ap (λ r. r.takes) (l.row w is) ∙ sym (k.takes w is)) ∙ e
