-- What the tables of a net give the code that loads an effect: one entry of the packed table, one kind. Assumes nothing.
use Rattle.std.specs.Prelude.{◌+◌, ◌-◌, ◌*◌, ◌/◌, ◌%◌, ◌++◌, Some, None}
use mathlib.Core.Path.{◌≡◌, refl, sym, ap, subst, fun_ext, ◌∙◌}
use Prim.Native.Nat.{◌≤◌, ◌<◌}
use native.Mathlib.Omega.{arith}
use borrow.Author.Tests.{eq-eqb, ne_eqb, ltb-true, ltb-false}
use lib.ListN.{get_or-eq_default}
use lib.Seq.{take_all}
use Rattle.reading.specs.Basics.{ℕ, Bool, true, false, List, [], flat_map, Option, none, some, option_map, length, get_or, take, ltb}
use Rattle.reading.specs.Reading.{fine}
use Rattle.firing.specs.declared.Arc.{Arc}
use Rattle.net.specs.Net as net
use Rattle.net.specs.Net.{Expression, Place, single, pair, Net, net, colours_of, place_at, arc_on, scope, transition_at}
use Rattle.net.specs.Reader.{read_expression}
use Rattle.net.specs.Values.{weight}
use Rattle.evaluation.specs.internal.Evaluated.{scope_in, bound, place_by, is_pair}
use Rattle.net_transitions.specs.internal.TransitionTables.{Slot}
use Rattle.net.proofs.Alike.{weight_alike}
use Rattle.bindings.specs.Effect.{arc_weight}
use Rattle.prepared.specs.internal.Packed.{shape_of, entry_of, holding, entries_of}
use Rattle.runs.specs.internal.Terms.{Laid}
use Rattle.sums.specs.internal.Loaded.{rank_arcs, ExpressionLoaded}
use Rattle.sums.specs.internal.Slots.{expression_slots, slots_for}
use Rattle.multiset.proofs.Slots.{slots_told}
use Rattle.runs.proofs.Laying.{behind, changed, length-behind, laid_join}
use Rattle.plan.specs.internal.Layout.{sets_in, variables_in, guards_in, packed_in, expression_in, start_in, ranks_in, pair_in}
use Rattle.plan.specs.declared.entry.Entry.{Entry}
use Rattle.plan.specs.internal.Entries.{Tells}
use Rattle.prepared.specs.internal.Drawing.{start_of, Drawing}
use Rattle.prepared.specs.internal.Prepared.{Prepared}
use Rattle.prepared.specs.internal.Drawn.{DrawnTransition, its_net, IsInside}
use Rattle.rows.specs.internal.Effects.{place_slots, slots_below, kind_slots, place_arcs, kind_arcs}
use Rattle.rows.proofs.Needing.{slots_next, slots_rise, kind_arcs_lem}
use Rattle.rows.specs.internal.Loading.{KindLoaded}
use Rattle.rows.specs.internal.EntrySteps.{Begun, Told}
use Rattle.rows.specs.declared.entries.Entries.{Entries as Left}
use Rattle.prepared.proofs.Starts.{start_next, start_low}
use Rattle.rows.proofs.Split.{kind_more, place_none}
use Rattle.prepared.proofs.Packing.{HoldingAt, holding_at, holding-with, holding_few, holding_give, entries_many, entry_at}

-- a place by whether it is a pair
pub place_by_lem : (q : Place) → (first : ℕ) × (second : ℕ) × (place_by (is_pair q) first second ≡ q)
place_by_lem (single a) = (a, 0, refl)
place_by_lem (pair a b) = (a, b, refl)

-- what the number of an entry tells, taken apart
entry_told : (number slot start count : ℕ) (paired : Bool) → number ≡ entry_of 134217728 slot (shape_of start count paired) → start + count ≤ 4096
    → (expression_in number ≡ slot) × (start_in number ≡ start) × (ranks_in number ≡ count) × (pair_in number ≡ paired)
entry_told number slot start count paired e h = go paired e
  where
    -- what stands before the last bit
    front : (bit : ℕ) → bit ≤ 1 → number ≡ slot * 134217728 + (start * 16384 + count * 2 + bit) → (expression_in number ≡ slot) × (start_in number ≡ start) × (ranks_in number ≡ count)
    front bit small q =
        let by : number / 16384 ≡ slot * 8192 + start = omega arith in
        let half : number / 2 ≡ (slot * 8192 + start) * 8192 + count = omega arith in
        (omega arith, omega (arith, by), omega (arith, half))

    go : (b : Bool) → number ≡ entry_of 134217728 slot (shape_of start count b) → (expression_in number ≡ slot) × (start_in number ≡ start) × (ranks_in number ≡ count) × (pair_in number ≡ b)
    go true q = let f = front 1 (omega arith) q in (f.0, f.1, f.2, eq-eqb (number % 2) 1 (omega arith))
    go false q = let f = front 0 (omega arith) q in (f.0, f.1, f.2, ne_eqb (number % 2) 1 (λ odd. omega arith))

-- the same arcs from equal parts
rank_same : (start start' count count' : ℕ) (w w' : ℕ → ℕ) → start ≡ start' → count ≡ count' → ((r : ℕ) → w r ≡ w' r) → rank_arcs start count w ≡ rank_arcs start' count' w'
rank_same start start' count count' w w' e f h = ap (λ x. rank_arcs x count w) e ∙ ap (λ x. rank_arcs start' x w) f ∙ ap (rank_arcs start' count') (fun_ext h)

-- ---- one row of the packed table: a transition's arcs of a kind
module _ {s : List ℕ} {n : Net} {sizes vars guards arcs : List ℕ} (d : Drawing s n sizes vars guards arcs)
    {t k : ℕ} (ht : t < length n.transitions) (hk : k < 3) where
  -- the slot of a place
  pub slot : (p : ℕ) → p < length n.places
      → Slot (read_expression s (scope sizes vars n.places) (place_at n p) 16) (option_map (λ a. a.expression) (arc_on (transition_at n t).arcs (0x16 + k) p))
      (get_or d.slots (t * 96 + k * 32 + p) 0)
  slot p h = let e : t * 96 + k * 32 + p ≡ t * 96 + (k * 32 + p) = omega arith in rw e (d.arc t k p ht hk (omega arith))

  -- the row's places that hold an arc, 32 at most
  abbrev row : List ℕ
  row = holding d.slots (t * 96 + k * 32) (length n.places)

  row_few : length row ≤ 32
  row_few = omega (arith, holding_few d.slots (t * 96 + k * 32) (length n.places), d.limits.places)

  -- the code's entries
  abbrev entries : List ℕ
  entries = entries_of 134217728 d.shape d.slots (t * 96 + k * 32) (length n.places)

  -- its entry number i
  row_at : (i : ℕ) → i < 32 → i ≤ length row → get_or arcs (t * 96 + k * 32 + i) 0 ≡ get_or entries i 0
  row_at = (d.packed.row t k ht hk).entries

  -- it is 0 behind the last, and only there
  entry_past : (i : ℕ) → i < 32 → i ≤ length row → get_or arcs (t * 96 + k * 32 + i) 0 < 1 → length row ≤ i
  entry_past i h far free = go (ltb i (length row)) refl
    where
      go : (b : Bool) → ltb i (length row) ≡ b → length row ≤ i
      go true q =
          let there = ltb-true i (length row) q in
          let at = holding_at d.slots (t * 96 + k * 32) (length n.places) i there in
          absurd (omega (arith, row_at i h far, entry_at d.slots (t * 96 + k * 32) 134217728 d.shape (length n.places) i there at, at.held))
      go false q = ltb-false i (length row) q

  entry_there : (i : ℕ) → i < 32 → i ≤ length row → 1 ≤ get_or arcs (t * 96 + k * 32 + i) 0 → i < length row
  entry_there i h far has = go (ltb i (length row)) refl
    where
      go : (b : Bool) → ltb i (length row) ≡ b → i < length row
      go true q = ltb-true i (length row) q
      go false q =
          let past = ltb-false i (length row) q in
          let all : length entries ≤ i = omega (arith, entries_many d.slots (t * 96 + k * 32) 134217728 d.shape (length n.places)) in
          absurd (omega (arith, row_at i h far, get_or-eq_default entries 0 all))

  -- entry number i: its place's shape and where the expression stands
  pub record Entered (i : ℕ) (entry : Entry) : Type 0 where
    pub place : ℕ
    pub inside : place < length n.places
    pub there : i < length row
    pub held : 0 < get_or d.slots (t * 96 + k * 32 + place) 0
    pub stands_at : entry.expression ≡ get_or d.slots (t * 96 + k * 32 + place) 0
    pub starts_at : entry.start ≡ start_of n place
    pub ranks : entry.ranks ≡ colours_of n (place_at n place)
    pub paired : entry.paired ≡ is_pair (place_at n place)
    pub below : take i row ≡ holding d.slots (t * 96 + k * 32) place
    pub upto : take (i + 1) row ≡ holding d.slots (t * 96 + k * 32) (place + 1)

  -- its number
  abbrev number : ℕ → ℕ
  number i = get_or arcs (t * 96 + k * 32 + i) 0

  entered : (i : ℕ) (entry : Entry) → i < 32 → i ≤ length row → Tells (number i) entry → Entered i entry
  entered i entry h far tells =
      record {
        place = at.place;
        inside = at.inside;
        there = there;
        held = at.held;
        stands_at = tells.expression ∙ told.0;
        starts_at = tells.start ∙ told.1;
        ranks = tells.ranks ∙ told.2;
        paired = tells.paired ∙ told.3;
        below = at.before;
        upto = holding-with d.slots (t * 96 + k * 32) there at;
      }
    where
      there : i < length row
      there = entry_there i h far tells.there

      at : HoldingAt d.slots (t * 96 + k * 32) (length n.places) i
      at = holding_at d.slots (t * 96 + k * 32) (length n.places) i there

      is : number i ≡ entry_of 134217728 (get_or d.slots (t * 96 + k * 32 + at.place) 0) (shape_of (start_of n at.place) (colours_of n (place_at n at.place)) (is_pair (place_at n at.place)))
      is = row_at i h far ∙ entry_at d.slots (t * 96 + k * 32) 134217728 d.shape (length n.places) i there at
          ∙ ap (entry_of 134217728 (get_or d.slots (t * 96 + k * 32 + at.place) 0)) (d.shaped at.place at.inside)

      told : (expression_in (number i) ≡ get_or d.slots (t * 96 + k * 32 + at.place) 0) × (start_in (number i) ≡ start_of n at.place)
          × (ranks_in (number i) ≡ colours_of n (place_at n at.place)) × (pair_in (number i) ≡ is_pair (place_at n at.place))
      told = entry_told (number i) (get_or d.slots (t * 96 + k * 32 + at.place) 0) (start_of n at.place) (colours_of n (place_at n at.place)) (is_pair (place_at n at.place)) is
          (omega (arith, start_next n at.place at.inside, start_low n (at.place + 1), d.limits.flat_places_lem))

  -- its place's arc
  pub entry_arc : {A : Type 0} {i : ℕ} {entry : Entry} (en : Entered i entry)
      → ((a : net.Arc) (next : ℕ) → arc_on (transition_at n t).arcs (0x16 + k) en.place ≡ some a
      → read_expression s (scope sizes vars n.places) (place_at n en.place) 16 entry.expression ≡ fine a.expression next → A) → A
  entry_arc {A} {i} {entry} en with_arc = go (arc_on (transition_at n t).arcs (0x16 + k) en.place) refl (slot en.place en.inside)
    where
      go : (o : Option net.Arc) → arc_on (transition_at n t).arcs (0x16 + k) en.place ≡ o
          → Slot (read_expression s (scope sizes vars n.places) (place_at n en.place) 16) (option_map (λ a. a.expression) o) (get_or d.slots (t * 96 + k * 32 + en.place) 0) → A
      go none q sl = absurd (omega (arith, en.held))
      go (some a) q sl = with_arc a sl.1.next q (ap (read_expression s (scope sizes vars n.places) (place_at n en.place) 16) en.stands_at ∙ sl.1.reads)

  -- ---- the arcs that its places give, under colours
  module _ (value : ℕ → ℕ) where
    abbrev gives : ℕ → List Arc
    gives = place_arcs n (transition_at n t) value (0x16 + k)

    -- the row's places below a number give their arcs
    pub row_gives : (m : ℕ) → m ≤ length n.places → flat_map gives (holding d.slots (t * 96 + k * 32) m) ≡ kind_arcs n (transition_at n t) value (0x16 + k) m
    row_gives m le = holding_give d.slots (t * 96 + k * 32) gives m (λ p h free. go p (arc_on (transition_at n t).arcs (0x16 + k) p) refl (slot p (omega arith)) free)
      where
        go : (p : ℕ) (o : Option net.Arc) → arc_on (transition_at n t).arcs (0x16 + k) p ≡ o
            → Slot (read_expression s (scope sizes vars n.places) (place_at n p) 16) (option_map (λ a. a.expression) o) (get_or d.slots (t * 96 + k * 32 + p) 0)
            → get_or d.slots (t * 96 + k * 32 + p) 0 < 1 → gives p ≡ []
        go p none q sl free = place_none n (transition_at n t) value (0x16 + k) p q
        go p (some a) q sl free = absurd (omega (arith, sl.0))

    module _ {i : ℕ} {entry : Entry} (en : Entered i entry) where
      -- the arcs of an entry's place follow those of the places before it
      pub given_before : flat_map gives (take i row) ≡ kind_arcs n (transition_at n t) value (0x16 + k) en.place
      given_before = ap (flat_map gives) en.below ∙ row_gives en.place (omega (arith, en.inside))

      pub given_with_it : flat_map gives (take (i + 1) row) ≡ kind_arcs n (transition_at n t) value (0x16 + k) en.place ++ gives en.place
      given_with_it = ap (flat_map gives) en.upto ∙ row_gives (en.place + 1) (omega (arith, en.inside)) ∙ kind_more n (transition_at n t) value (0x16 + k) en.place

    -- an expression on a place gives the place's arcs
    pub arcs_given : (p : ℕ) (a : net.Arc) → arc_on (transition_at n t).arcs (0x16 + k) p ≡ some a
        → rank_arcs (start_of n p) (colours_of n (place_at n p)) (λ rank. weight n value rank a.expression) ≡ gives p
    arcs_given p a q =
        rank_same (start_of n p) (start_of n p) (colours_of n (place_at n p)) (colours_of n (place_at n p)) (λ rank. weight n value rank a.expression)
        (λ rank. arc_weight n (transition_at n t) value (0x16 + k) (record { place = p; rank = rank })) refl refl (λ rank. rw q refl)

-- the arcs of an entry were laid into a room
abbrev EntryLoaded : List ℕ → List ℕ → List ℕ → Entry → List Arc → List Arc → ℕ → Type 0
EntryLoaded s plan env entry = ExpressionLoaded s (sets_in plan) (variables_in plan) env entry.paired entry.start entry.ranks entry.expression

-- one entry more was loaded
module _ {s : List ℕ} {n : Net} {plan : List ℕ} (env : List ℕ) (prepared : Prepared s n plan)
    {t k : ℕ} (ht : t < length n.transitions) (hk : k < 3) where
  -- the tables that the plan holds, and what expressions are read over
  abbrev d : Drawing s n (sets_in plan) (variables_in plan) (guards_in plan) (packed_in plan)
  d = prepared.drawing

  abbrev over : Net
  over = scope_in plan n.places

  -- the expression of an arc on a place was
  place_loads : (entry : Entry) (p : ℕ) (e : Expression) {room room' : List Arc} {r next : ℕ} → entry.start ≡ start_of n p
      → entry.ranks ≡ colours_of n (place_at n p) → entry.paired ≡ is_pair (place_at n p)
      → EntryLoaded s plan env entry room room' r
      → read_expression s over (place_at n p) 16 entry.expression ≡ fine e next
      → expression_slots (colours_of n (place_at n p)) e + length s / 2 ≤ length room
      → Laid (rank_arcs (start_of n p) (colours_of n (place_at n p)) (λ rank. weight n (bound env) rank e)) room room' r
  place_loads entry p e {room} {room'} {r} {next} begins many paired loaded reads x =
      let by = place_by_lem (place_at n p) in
      subst (λ l. Laid l room room' r)
      (rank_same entry.start (start_of n p) entry.ranks (colours_of n (place_at n p)) (λ rank. weight over (bound env) rank e) (λ rank. weight n (bound env) rank e) begins many
      (λ rank. weight_alike over n (sym d.sets) (sym d.variables) (bound env) rank e))
      (loaded n.places by.0 by.1 next e
      (ap (λ b. read_expression s over (place_by b by.0 by.1) 16 entry.expression) paired ∙ ap (λ q. read_expression s over q 16 entry.expression) by.2 ∙ reads)
      (omega (arith, few)))
    where
      few : slots_for s entry.expression entry.ranks ≡ expression_slots (colours_of n (place_at n p)) e
      few = slots_told s over (place_at n p) entry.expression entry.ranks reads ∙ ap (λ c. expression_slots c e) many

  row_loads : {i : ℕ} {entry : Entry} (en : Entered d ht hk i entry) {room₀ room part : List Arc} {end more : ℕ}
      → Laid (flat_map (place_arcs n (transition_at n t) (bound env) (0x16 + k)) (take i (holding d.slots (t * 96 + k * 32) (length n.places)))) room₀ room end
      → EntryLoaded s plan env entry (behind end room) part more → end ≤ length room
      → kind_slots n (transition_at n t) (0x16 + k) + length s / 2 ≤ length room₀
      → Laid (flat_map (place_arcs n (transition_at n t) (bound env) (0x16 + k)) (take (i + 1) (holding d.slots (t * 96 + k * 32) (length n.places)))) room₀ (changed end room part) (end + more)
  row_loads {i} {entry} en {room₀} {room} {part} {end} {more} so_far loaded le x =
      subst (λ l. Laid l room₀ (changed end room part) (end + more)) (sym (given_with_it d ht hk (bound env) en)) (laid_join before le (entry_arc d ht hk en (λ a next q reads.
      let needs : place_slots n (transition_at n t) (0x16 + k) p ≡ expression_slots (colours_of n (place_at n p)) a.expression = rw q refl in
      subst (λ l. Laid l (behind end room) part more) (arcs_given d ht hk (bound env) p a q)
      (place_loads entry p a.expression en.starts_at en.ranks en.paired loaded reads (omega (arith, needs, wide, length-behind end room, before.size))))))
    where
      p : ℕ
      p = en.place

      before : Laid (kind_arcs n (transition_at n t) (bound env) (0x16 + k) p) room₀ room end
      before = subst (λ l. Laid l room₀ room end) (given_before d ht hk (bound env) en) so_far

      wide : end + place_slots n (transition_at n t) (0x16 + k) p ≤ kind_slots n (transition_at n t) (0x16 + k)
      wide =
          let e : p + 1 + (length n.places - (p + 1)) ≡ length n.places = omega (arith, en.inside) in
          let rest = subst (λ q. slots_below n (transition_at n t) (0x16 + k) (p + 1) ≤ slots_below n (transition_at n t) (0x16 + k) q) e (slots_rise n (transition_at n t) (0x16 + k) (p + 1) (length n.places - (p + 1))) in
          omega (arith, before.many, kind_arcs_lem n (transition_at n t) (0x16 + k) (bound env) p, slots_next n (transition_at n t) (0x16 + k) p, rest)

-- ---- the code's walk over the entries of a transition's kind, one after the other up to the first 0
-- the row's places that hold an arc
abbrev pub row_of : {d : DrawnTransition} → IsInside d.drawing.file d.drawing.plan d.number → ℕ → List ℕ
row_of {d} ready k = holding ready.0.drawing.slots (d.number * 96 + k * 32) (length (its_net d).places)

-- it has come to number i, and something holds of the places of those before it
pub record Upto (d : DrawnTransition) (k : ℕ) (left : Left) (P : ℕ → List ℕ → Type 0) : Type 0 where
  pub ready : IsInside d.drawing.file d.drawing.plan d.number
  pub kind : k < 3
  pub i : ℕ
  pub few : i ≤ 32
  pub plan_is : left.plan.now ≡ d.drawing.plan
  pub at_is : left.at ≡ d.number * 96 + k * 32 + i
  pub end_is : left.end ≡ d.number * 96 + k * 32 + 32
  pub far : i ≤ length (row_of {d = d} ready k)
  pub holds : P i (take i (row_of {d = d} ready k))

-- it begins
pub upto_begins : {d : DrawnTransition} {k : ℕ} {all left : Left} {P : ℕ → List ℕ → Type 0} → left ≡ all → Begun d k all.plan.now all.at all.end → P 0 [] → Upto d k left P
upto_begins e b holds =
    rw e (record { ready = b.ready; kind = b.kind; i = 0; few = omega arith; plan_is = b.plan_is; at_is = omega (arith, b.at_is); end_is = b.end_is; far = omega arith; holds = holds })

module _ {d : DrawnTransition} {k : ℕ} {left : Left} {P : ℕ → List ℕ → Type 0} (u : Upto d k left P) where
  -- an entry more
  pub upto_goes : {left' : Left} {Q : ℕ → List ℕ → Type 0} {entry : Entry} → Told left.plan.now left.at left.end (Some entry) left'.plan.now left'.at left'.end
      → (Entered u.ready.0.drawing u.ready.1 u.kind u.i entry → P u.i (take u.i (row_of {d = d} u.ready k)) → Q (u.i + 1) (take (u.i + 1) (row_of {d = d} u.ready k))) → Upto d k left' Q
  upto_goes {entry = entry} told step =
      let (before, tells, next) = told.entry in
      let lt : u.i < 32 = omega arith in
      let en = entered u.ready.0.drawing u.ready.1 u.kind u.i entry lt u.far (rw (u.plan_is, u.at_is) at tells) in
      record {
        ready = u.ready;
        kind = u.kind;
        i = u.i + 1;
        few = omega arith;
        plan_is = told.same ∙ u.plan_is;
        at_is = omega arith;
        end_is = told.same_end ∙ u.end_is;
        far = omega (arith, en.there);
        holds = step en u.holds;
      }

  -- no entry is left: none behind a 0, nor behind the 32nd
  pub upto_ends : {plan' : List ℕ} {at' end' : ℕ} → Told left.plan.now left.at left.end None plan' at' end' → P u.i (row_of {d = d} u.ready k)
  upto_ends told = subst (P u.i) (take_all u.i (row_of {d = d} u.ready k) (go (ltb u.i 32) refl)) u.holds
    where
      go : (b : Bool) → ltb u.i 32 ≡ b → length (row_of {d = d} u.ready k) ≤ u.i
      go true e = let h = ltb-true u.i 32 e in entry_past u.ready.0.drawing u.ready.1 u.kind u.i h u.far (rw (u.plan_is, u.at_is) at (told.entry (omega arith)))
      go false e = omega (arith, row_few u.ready.0.drawing u.ready.1 u.kind, ltb-false u.i 32 e)

-- ---- one kind loaded, entry after entry
-- where the room is enough, the arcs of these places were laid into it
abbrev pub PlacesLoaded : DrawnTransition → ℕ → List ℕ → List Arc → List Arc → ℕ → ℕ → List ℕ → Type 0
PlacesLoaded d k env room₀ room end i places =
    kind_slots (its_net d) (transition_at (its_net d) d.number) (0x16 + k) + length d.drawing.file / 2 ≤ length room₀
    → Laid (flat_map (place_arcs (its_net d) (transition_at (its_net d) d.number) (bound env) (0x16 + k)) places) room₀ room end

module _ {d : DrawnTransition} {k : ℕ} {left : Left} (env : List ℕ) {room₀ room : List Arc} {end : ℕ} (u : Upto d k left (PlacesLoaded d k env room₀ room end)) where
  pub kind_goes : {left' : Left} {part : List Arc} {entry : Entry} {more : ℕ} → Told left.plan.now left.at left.end (Some entry) left'.plan.now left'.at left'.end
      → EntryLoaded d.drawing.file d.drawing.plan env entry (behind end room) part more → end ≤ length room
      → Upto d k left' (PlacesLoaded d k env room₀ (changed end room part) (end + more))
  kind_goes told loaded le = upto_goes u told (λ en so_far x. row_loads env u.ready.0 u.ready.1 u.kind en (so_far x) loaded le x)

  -- the arcs of its places are the kind's
  pub kind_ends : {plan' : List ℕ} {at' end' : ℕ} → Told left.plan.now left.at left.end None plan' at' end' → KindLoaded d.drawing.file (its_net d) env d.number k room₀ room end
  kind_ends told x =
      subst (λ arcs. Laid arcs room₀ room end) (row_gives u.ready.0.drawing u.ready.1 u.kind (bound env) (length (its_net d).places) (omega arith)) (upto_ends u told x)
