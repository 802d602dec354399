-- What the code's loop over the entries of the packed table tells of the slots that the rows of a net need. Assumes nothing.
use Rattle.std.specs.Prelude.{◌+◌, ◌*◌, ◌∷◌, ◌++◌, Some, None}
use mathlib.Core.Path.{◌≡◌, refl, sym, ap, subst, ◌∙◌}
use mathlib.Core.List.{append-nil}
use Prim.Native.Nat.{◌≤◌, ◌<◌}
use native.Mathlib.Omega.{arith}
use lib.ListN.{length-map}
use Rattle.reading.specs.Basics.{ℕ, zero, suc, List, [], map, flat_map, Option, none, some, option_map, length, get_or, take, sum, numbers_from}
use Rattle.net.specs.Net as net
use Rattle.net.specs.Net.{Net, net, place_at, arc_on, no_transition, scope, transition_at}
use Rattle.net.specs.Reader.{read_expression}
use Rattle.net_transitions.specs.internal.TransitionTables.{Slot}
use Rattle.sums.specs.internal.Slots.{expression_slots, slots_for}
use Rattle.plan.specs.declared.entry.Entry.{Entry}
use Rattle.multiset.proofs.Slots.{slots_told}
use Rattle.prepared.specs.internal.Packed.{if_held, holding}
use Rattle.prepared.specs.internal.Drawing.{Drawing}
use Rattle.prepared.specs.internal.Drawn.{DrawnTransition, its_net}
use Rattle.rows.specs.internal.Effects.{place_slots, slots_below, row_slots}
use Rattle.rows.specs.internal.Slots.{KindSlotted, RowSlotted, NetSlotted}
use Rattle.prepared.proofs.Packing.{by_slot, held_none, held_some, holding_more}
use Rattle.rows.proofs.Needing.{greatest_least, map_at}
use Rattle.rows.specs.internal.EntrySteps.{Told}
use Rattle.rows.specs.declared.entries.Entries.{Entries as Left}
use Rattle.rows.proofs.Drawn.{slot, Entered, entry_arc, Upto, upto_goes, upto_ends}

-- ---- sums over the places of a row that hold an arc
snoc_sum : (f : ℕ → ℕ) (l : List ℕ) (x : ℕ) → sum (map f (l ++ (x ∷ []))) ≡ sum (map f l) + f x
snoc_sum f [] x = omega arith
snoc_sum f (a ∷ l) x = let e = snoc_sum f l x in omega arith

module _ {s : List ℕ} {n : Net} {sizes vars guards arcs : List ℕ} (d : Drawing s n sizes vars guards arcs)
    {t k : ℕ} (ht : t < length n.transitions) (hk : k < 3) where
  abbrev slots : ℕ → ℕ
  slots = place_slots n (transition_at n t) (0x16 + k)

  abbrev row : List ℕ
  row = holding d.slots (t * 96 + k * 32) (length n.places)

  -- a place whose slot is 0 has no arc
  place_free : (p : ℕ) → p < length n.places → get_or d.slots (t * 96 + k * 32 + p) 0 < 1 → slots p ≡ 0
  place_free p h free = go (arc_on (transition_at n t).arcs (0x16 + k) p) refl (slot d ht hk p h)
    where
      go : (o : Option net.Arc) → arc_on (transition_at n t).arcs (0x16 + k) p ≡ o
          → Slot (read_expression s (scope sizes vars n.places) (place_at n p) 16) (option_map (λ a. a.expression) o) (get_or d.slots (t * 96 + k * 32 + p) 0) → slots p ≡ 0
      go none q sl = rw q refl
      go (some a) q sl = absurd (omega (arith, sl.0))

  -- all places need what those that hold an arc need
  held_slots : (m : ℕ) → m ≤ length n.places → sum (map slots (holding d.slots (t * 96 + k * 32) m)) ≡ slots_below n (transition_at n t) (0x16 + k) m
  unfolding slots_below flat_map numbers_from
  held_slots zero h = refl
  held_slots (suc m) h =
      let e : m + 1 ≡ suc m = omega arith in
      let l = holding d.slots (t * 96 + k * 32) m in
      let here = get_or d.slots (t * 96 + k * 32 + m) 0 in
      let before = held_slots m (omega arith) in
      let more = subst (λ x. holding d.slots (t * 96 + k * 32) x ≡ l ++ if_held here m) e (holding_more d.slots (t * 96 + k * 32) m) in
      by_slot here
      (λ free.
      let none_here = more ∙ ap (λ x. l ++ x) (held_none here m free) ∙ append-nil l in
      omega (arith, ap (λ x. sum (map slots x)) none_here, before, place_free m (omega arith) free))
      (λ has.
      let one_more = more ∙ ap (λ x. l ++ x) (held_some here m has) in
      omega (arith, ap (λ x. sum (map slots x)) one_more, snoc_sum slots l m, before))

  -- one entry more
  entry_slots : {i : ℕ} {entry : Entry} (en : Entered d ht hk i entry) {total more : ℕ}
      → sum (map slots (take i row)) ≤ total → more ≡ slots_for s entry.expression entry.ranks → sum (map slots (take (i + 1) row)) ≤ total + more
  entry_slots {entry = entry} en so_far told =
      let p = en.place in
      let next = en.upto ∙ holding_more d.slots (t * 96 + k * 32) p ∙ ap (λ x. holding d.slots (t * 96 + k * 32) p ++ x) (held_some (get_or d.slots (t * 96 + k * 32 + p) 0) p en.held) in
      let here : slots p ≡ slots_for s entry.expression entry.ranks = entry_arc d ht hk en (λ a next q reads.
      rw q (sym (slots_told s (scope sizes vars n.places) (place_at n p) entry.expression entry.ranks reads ∙ ap (λ c. expression_slots c a.expression) en.ranks))) in
      omega (arith, ap (λ x. sum (map slots x)) next, snoc_sum slots (holding d.slots (t * 96 + k * 32) p) p, ap (λ x. sum (map slots x)) en.below, so_far, told, here)

-- ---- one kind, entry after entry
-- the arcs on these places need so many slots at most
abbrev pub SlotsUpto : DrawnTransition → ℕ → ℕ → ℕ → List ℕ → Type 0
SlotsUpto d k total i places = (total ≤ 8192 * i) × (sum (map (place_slots (its_net d) (transition_at (its_net d) d.number) (0x16 + k)) places) ≤ total)

module _ {d : DrawnTransition} {k total : ℕ} {left : Left} (u : Upto d k left (SlotsUpto d k total)) where
  pub slots_go : {left' : Left} {entry : Entry} {more : ℕ} → Told left.plan.now left.at left.end (Some entry) left'.plan.now left'.at left'.end
      → more ≡ slots_for d.drawing.file entry.expression entry.ranks → more ≤ entry.ranks → entry.ranks < 8192 → Upto d k left' (SlotsUpto d k (total + more))
  slots_go told is few low = upto_goes u told (λ en so_far. (omega (arith, so_far.0), entry_slots u.ready.0.drawing u.ready.1 u.kind en so_far.1 is))

  -- what its places need is what the kind needs
  pub slots_end : {plan' : List ℕ} {at' end' : ℕ} → Told left.plan.now left.at left.end None plan' at' end' → KindSlotted (its_net d) d.number k total
  slots_end told = omega (arith, (upto_ends u told).1, held_slots u.ready.0.drawing u.ready.1 u.kind (length (its_net d).places) (omega arith))

-- so many are enough for the first so many transitions
abbrev pub Enough : Net → ℕ → ℕ → Type 0
Enough n most t = (u : ℕ) → u < t → RowSlotted n u most

pub all_enough : (n : Net) {most : ℕ} → Enough n most (length n.transitions) → NetSlotted n most
all_enough n {most} enough =
    greatest_least (map (row_slots n) n.transitions) most (λ i lt.
    let inside : i < length n.transitions = omega (arith, length-map n.transitions (row_slots n)) in
    omega (arith, enough i inside, map_at (row_slots n) n.transitions i no_transition inside))
