-- How many arcs the rows of a transition have at most: no more than its expressions give under any binding. Assumes nothing.
use Rattle.std.specs.Prelude.{◌+◌, ◌*◌, ◌&&◌, ◌∷◌, if◌then◌else◌, Some, None}
use mathlib.Core.Path.{◌≡◌, refl, sym, ap, subst, ◌∙◌}
use Prim.Native.Nat.{◌≤◌, ◌<◌}
use native.Mathlib.Omega.{arith}
use borrow.Author.Tests.{eqb-true}
use lib.ListN.{length-append}
use Rattle.reading.specs.Basics.{ℕ, Bool, true, false, List, [], flat_map, some, length, take, eqb, find}
use Rattle.reading.proofs.Lists.{In, at_below, get_d_at, at_in}
use Rattle.reading.proofs.Gives.{both_second}
use Rattle.net.specs.Net as net
use Rattle.net.specs.Net.{Expression, Transition, Net, place_at, colours_of, arc_on, variables_of, sizes_of, no_transition, transition_at}
use Rattle.firing.specs.declared.Arc.{Arc}
use Rattle.net_file.specs.Formed.{Fitting, expression_formed}
use Rattle.net_file.proofs.Formed.{found_in, its_expression}
use Rattle.row_lengths.specs.internal.MostArcs.{most, MostArc}
use Rattle.row_lengths.proofs.MostArcs.{arcs_most}
use Rattle.bindings.specs.Effect.{bindings, stands_for, weights_of, flat_row}
use Rattle.bindings.specs.internal.Bindings.{numbered}
use Rattle.bindings.specs.internal.Numbers.{digits, before}
use Rattle.prepared.specs.internal.Packed.{holding}
use Rattle.plan.specs.internal.Layout.{sets_in, variables_in, guards_in, packed_in}
use Rattle.plan.specs.declared.entry.Entry.{Entry}
use Rattle.prepared.specs.internal.Drawing.{start_of, Drawing}
use Rattle.prepared.specs.internal.Prepared.{Prepared}
use Rattle.prepared.specs.internal.Drawn.{DrawnTransition, its_net}
use Rattle.net_file.specs.Limits.{Limits}
use Rattle.prepared.proofs.Known.{its_form}
use Rattle.rows.specs.internal.Effects.{place_arcs, kind_arcs}
use Rattle.row_lengths.specs.internal.MostRows.{MostKind, arcs_of_row, MostRow}
use Rattle.rows.proofs.Split.{split}
use Rattle.rows.specs.internal.EntrySteps.{Told}
use Rattle.rows.specs.declared.entries.Entries.{Entries as Left}
use Rattle.rows.proofs.Drawn.{place_by_lem, row_gives, Entered, entry_arc, given_before, given_with_it, arcs_given, Upto, upto_goes, upto_ends}
use Rattle.bindings.proofs.Digits.{bindings_at}
use Rattle.row_lengths.proofs.Values.{binding_stands}
use Rattle.bindings.proofs.Legal.{effect_weighs}

-- what is found passes the test
found_passes : {A : Type 0} (test : A → Bool) (l : List A) {a : A} → find test l ≡ some a → test a ≡ true
unfolding find
found_passes test [] e = let z : ◌≡◌ {A = ℕ} 0 1 = cc in absurd (omega arith)
found_passes test (b ∷ l) {a} e = go (test b) refl (found_passes test l) e
  where
    go : (t : Bool) → test b ≡ t → (find test l ≡ some a → test a ≡ true) → (if t then some b else find test l) ≡ some a → test a ≡ true
    go true q ih r = let z : b ≡ a = cc in ap test (sym z) ∙ q
    go false q ih r = ih r

module _ {s : List ℕ} {n : Net} {plan : List ℕ} (prepared : Prepared s n plan) (value : ℕ → ℕ) (fits : Fitting n value)
    {t k : ℕ} (ht : t < length n.transitions) (hk : k < 3) where
  abbrev d : Drawing s n (sets_in plan) (variables_in plan) (guards_in plan) (packed_in plan)
  d = prepared.drawing

  -- an arc of the transition on a place has an expression for it
  on_place : (p : ℕ) (a : net.Arc) → arc_on (transition_at n t).arcs (0x16 + k) p ≡ some a → expression_formed n (place_at n p) a.expression ≡ true
  on_place p a q =
      let (u, e) = at_below n.transitions t ht in
      let i : In (transition_at n t) n.transitions = rw (get_d_at n.transitions t no_transition e) (at_in n.transitions t e) in
      let z = eqb-true a.place p (both_second (eqb a.kind (0x16 + k)) (eqb a.place p) (found_passes (λ a. eqb a.kind (0x16 + k) && eqb a.place p) (transition_at n t).arcs q)) in
      subst (λ p. expression_formed n (place_at n p) a.expression ≡ true) z (its_expression (its_form prepared) i (found_in (λ a. eqb a.kind (0x16 + k) && eqb a.place p) (transition_at n t).arcs q))

  -- the arcs of a row's first places
  abbrev so_many : ℕ → List Arc
  so_many i = flat_map (place_arcs n (transition_at n t) value (0x16 + k)) (take i (holding d.slots (t * 96 + k * 32) (length n.places)))

  -- one entry more
  entry_adds : {i : ℕ} {entry : Entry} (en : Entered d ht hk i entry) {total more : ℕ} → length (so_many i) ≤ total → MostArc s plan entry more → length (so_many (i + 1)) ≤ total + more
  entry_adds {entry = entry} en {total} {more} so_far told =
      let p = en.place in
      omega (
        arith,
        ap length (given_with_it d ht hk value en),
        length-append (kind_arcs n (transition_at n t) value (0x16 + k) p) (place_arcs n (transition_at n t) value (0x16 + k) p),
        ap length (given_before d ht hk value en),
        entry_arc d ht hk en (λ a next q reads.
            let by = place_by_lem (place_at n p) in
            let tells : more ≡ most (colours_of n (place_at n p)) a.expression = rw (en.ranks, en.paired) at told n.places by.0 by.1 next a.expression (rw by.2 reads) in
            let few : length (place_arcs n (transition_at n t) value (0x16 + k) p) ≤ more = omega (
              arith,
              ap length (arcs_given d ht hk value p a q),
              arcs_most (start_of n p) n value fits (place_at n p) a.expression (on_place p a q),
              tells,
            ) in
            few),
      )

-- ---- one kind, entry after entry
-- these places give so many arcs at most, whatever the binding
abbrev pub ArcsUpto : DrawnTransition → ℕ → ℕ → ℕ → List ℕ → Type 0
ArcsUpto d k total i places = (total ≤ 65535 * i) × ((value : ℕ → ℕ) → Fitting (its_net d) value
    → length (flat_map (place_arcs (its_net d) (transition_at (its_net d) d.number) value (0x16 + k)) places) ≤ total)

module _ {d : DrawnTransition} {k total : ℕ} {left : Left} (u : Upto d k left (ArcsUpto d k total)) where
  pub most_goes : {left' : Left} {entry : Entry} {more : ℕ} → Told left.plan.now left.at left.end (Some entry) left'.plan.now left'.at left'.end
      → MostArc d.drawing.file d.drawing.plan entry more → more ≤ 65535 → Upto d k left' (ArcsUpto d k (total + more))
  most_goes told is few = upto_goes u told (λ en so_far. (omega (arith, so_far.0), λ value fits. entry_adds u.ready.0 value fits u.ready.1 u.kind en (so_far.1 value fits) is))

  -- the arcs of its places are the kind's
  pub most_ends : {plan' : List ℕ} {at' end' : ℕ} → Told left.plan.now left.at left.end None plan' at' end' → MostKind (its_net d) d.number k total
  most_ends told value fits =
      subst (λ arcs. length arcs ≤ total) (row_gives u.ready.0.drawing u.ready.1 u.kind value (length (its_net d).places) (omega arith)) ((upto_ends u told).1 value fits)

-- ---- the rows of a transition
pub row-most : (n : Net) → Limits n → (t : ℕ) → t < length n.transitions → {takes puts hinders : ℕ} → MostKind n t 0 takes → MostKind n t 1 puts
    → MostKind n t 2 hinders → MostRow n t (takes + puts + hinders)
row-most n limits t ht {takes = takes} {puts = puts} {hinders = hinders} first second third i w inside e =
    subst (λ x. arcs_of_row (flat_row n x) ≤ takes + puts + hinders) (effect_weighs n (numbered n t i) e) few
  where
    u : Transition
    u = transition_at n t

    env : ℕ → ℕ
    env = stands_for (variables_of n u) (digits (sizes_of n u) i)

    fits : Fitting n env
    fits = binding_stands n limits (at_in (bindings n) (before n t + i) (bindings_at n t i ht inside))

    few : arcs_of_row (flat_row n (weights_of n u env)) ≤ takes + puts + hinders
    few = omega (arith, ap length (split n u env 0x16), first env fits, ap length (split n u env 0x17), second env fits, ap length (split n u env 0x18), third env fits)
