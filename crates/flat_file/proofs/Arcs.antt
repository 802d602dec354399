-- The arc at a place of the file, by its kind; and the arcs of a row read so far. Assumes nothing.
use Rattle.std.specs.Prelude.{◌+◌, ◌*◌, ◌&&◌, ◌∷◌, Option, Some, None, Result, Ok, Err}
use mathlib.Core.Path.{◌≡◌, refl, sym, ap, ◌∙◌, subst}
use Prim.Native.Nat.{◌≤◌, ◌<◌}
use native.Mathlib.Omega.{arith}
use native.Mathlib.Decide.{dec_le, dec_lt}
use borrow.Author.Tests.{lt-ltb, le-ltb, le-leb, lt-leb, ne_eqb}
use mathlib.Core.Logic.{◌⊎◌, inl, inr}
use lib.ListN.{set, length-set}
use Rattle.reading.specs.Basics.{ℕ, true, false, List, [], some, none, length, ltb, eqb, every, find, byte_at, word_at}
use Rattle.reading.specs.Reading.{fine, fault, ◌unless◌, obey}
use Rattle.reading.specs.declared.refusal.Refusal.{Refusal}
use Rattle.reading.proofs.Commands.{Fails, fails, later, passes, done, other, end, both_hold, first_fails, second_fails, standing_at, standing_none, obey_cut, obey_fails, obey_goes}
use Rattle.reading.proofs.Parts.{Reading, begins, goes_on, ends, stops}
use Rattle.firing.specs.declared.Arc.{Arc}
use Rattle.firing.specs.Arcs.{Row, row, Rising, Proper}
use Rattle.firing.specs.declared.Ends.{Ends}
use Rattle.firing.specs.internal.RowLists.{EndsWithin, row_in}
use Rattle.firing.proofs.Rows.{length_arcs, arcs_none}
use Rattle.flat_file.specs.Flat.{arc_command, arc_part}
use Rattle.flat_file.specs.internal.ReaderEnums.{kind_byte, ArcHere, most_arcs, in_order, added, key, Least, arc_there, arc_step, Checked, ArcRoom, ArcsPassed, arcs_at, ArcsStand, later_ends}
use Rattle.firing.specs.declared.kind.Kind.{Kind}
use Rattle.firing.specs.declared.kind.Kind.TheVariants.{Take, Put, Hinder}
use Rattle.flat_file.specs.declared.reader.ArcRead.{ArcRead}
use Rattle.flat_file.proofs.Rows.{in_order_lem, least_added, proper_added, row-added, few_arcs, one_more, arc_count}

-- ---- one arc
module _ (s : List ℕ) (n at : ℕ) (r : Row) where
  -- the arc whose operands stand there
  abbrev there : Arc
  there = arc_there s at

  -- each kind of arc has its byte, its order and its place in the row
  arc_stands : (kind : Kind) → byte_at s at ≡ kind_byte kind
      → arc_part s n r at ≡ some (obey s at (arc_command n (kind_byte kind) there (in_order kind r there.place) (added kind r there)))
  unfolding arc_part find
  arc_stands Take e = standing_at s at _ 0x52 e refl
  arc_stands Put e = standing_at s at _ 0x53 e refl
  arc_stands Hinder e = standing_at s at _ 0x54 e refl

  -- another byte ends the row
  pub arc_none : (byte_at s at < 0x52) ⊎ (0x54 < byte_at s at) → arc_part s n r at ≡ none
  unfolding arc_part find
  arc_none (inl lt) = standing_none s at _ (other (not_below 0x52 (omega arith)) (other (not_below 0x53 (omega arith)) (other (not_below 0x54 (omega arith)) end)))
    where
      not_below : (b : ℕ) → byte_at s at < b → eqb (byte_at s at) b ≡ false
      not_below b lt = ne_eqb (byte_at s at) b (λ e. omega arith)
  arc_none (inr lt) = standing_none s at _ (other (not_above 0x52 (omega arith)) (other (not_above 0x53 (omega arith)) (other (not_above 0x54 (omega arith)) end)))
    where
      not_above : (b : ℕ) → b < byte_at s at → eqb (byte_at s at) b ≡ false
      not_above b lt = ne_eqb (byte_at s at) b (λ e. omega arith)

  -- the checks in turn: 2, 5 for the place or the weight, 9
  module _ (kind : Kind) (is : byte_at s at ≡ kind_byte kind) where
    pub arc_cut : length s < at + 5 → arc_part s n r at ≡ some (fault 2 (length s))
    arc_cut lt = arc_stands kind is ∙ ap some (obey_cut s at _ (omega arith))

    module _ (le : at + 5 ≤ length s) where
      arc_fails : (k : ℕ) → Fails ((5 unless (ltb there.place n && ltb 0 there.weight)) ∷ (9 unless in_order kind r there.place) ∷ []) k
          → arc_part s n r at ≡ some (fault k at)
      arc_fails k f = arc_stands kind is ∙ ap some (obey_fails s at _ k (omega arith) f)

      pub arc_beyond : n ≤ there.place → arc_part s n r at ≡ some (fault 5 at)
      arc_beyond out = arc_fails 5 (fails (first_fails _ _ (le-ltb there.place n out)))

      pub arc_weightless : there.weight < 1 → arc_part s n r at ≡ some (fault 5 at)
      arc_weightless out = arc_fails 5 (fails (second_fails (ltb there.place n) _ (le-ltb 0 there.weight (omega arith))))

      module _ (least : ℕ) (from : Least r least) (small : there.place < 65536) (inside : there.place < n) (weighs : 0 < there.weight) where
        fits : ltb there.place n && ltb 0 there.weight ≡ true
        fits = both_hold _ _ (lt-ltb there.place n inside) (lt-ltb 0 there.weight weighs)

        pub arc_disorder : key kind there.place < least → arc_part s n r at ≡ some (fault 9 at)
        arc_disorder lt = arc_fails 9 (later fits (fails (from kind there.place small ∙ lt-leb least (key kind there.place) lt)))

        pub arc_goes : least ≤ key kind there.place → arc_part s n r at ≡ some (fine (added kind r there) (at + 5))
        arc_goes up = arc_stands kind is ∙ ap some (obey_goes s at _ (omega arith) (passes fits (passes (in_order_lem r least from kind there.place small up) done)))

-- ---- the arcs of a row so far: a row, and the least key that may follow
pub record ArcsRead (s : List ℕ) (n start : ℕ) (r : Row) (least at : ℕ) : Type 0 where
  pub proper : Proper n r
  pub from : Least r least
  pub reading : Reading s (arc_part s n) r at (arcs_at s n start)
  pub counted : at ≡ start + 5 * arc_count r
  pub within : start ≤ length s → at ≤ length s

-- every arc keeps the order of an empty row
least_none : Least (row [] [] []) 0
unfolding every
least_none Take p lt = sym (le-leb 0 (key Take p) (omega arith))
least_none Put p lt = sym (le-leb 0 (key Put p) (omega arith))
least_none Hinder p lt = sym (le-leb 0 (key Hinder p) (omega arith))

-- before the first arc
pub arcs_begin : (s : List ℕ) (n start : ℕ) → ArcsRead s n start (row [] [] []) 0 start
unfolding arc_count
arcs_begin s n start =
    record {
      proper = record { takes = Rising.none; puts = Rising.none; hinders = Rising.none };
      from = least_none;
      reading = begins s (arc_part s n) (row [] [] []) start;
      counted = omega arith;
      within = λ le. le;
    }

module _ {s : List ℕ} {n start : ℕ} {r : Row} {least at : ℕ} (here : ArcsRead s n start r least at) (small : n ≤ 4096) where
  -- one more arc, with what its checks have shown
  pub arc_more : (read : ArcRead) → Checked (length s) n at least read → arc_part s n r at ≡ some (fine (added read.kind r read.arc) (at + 5))
      → ArcsRead s n start (added read.kind r read.arc) (key read.kind read.arc.place + 1) (at + 5)
  arc_more read shown e =
      let a = read.arc in
      let lt : a.place < 65536 = omega (arith, shown.0) in
      record {
        proper = proper_added n r a here.proper shown.0 shown.1 read.kind (in_order_lem r least here.from read.kind a.place lt shown.2);
        from = least_added r a least here.from lt read.kind shown.2;
        reading = goes_on s (arc_part s n) (added read.kind r a) (at + 5) here.reading (omega arith) shown.3 e;
        counted = omega (arith, here.counted, one_more read.kind r a);
        within = λ _. shown.3;
      }

  -- by the next step the row ends, has a fault, or grows
  module _ {step : Result (Option ArcRead) Refusal} (is : (before : Row) → Least before least → arc_part s n before at ≡ arc_step (at + 5) before step) (room : ArcRoom (length s) n at least step) where
    pub pass_end : step ≡ Ok None → ArcsPassed s n start (Ok at)
    pass_end e = (
      (r, ends s (arc_part s n) here.reading (is r here.from ∙ ap (arc_step (at + 5) r) e)),
      omega (arith, here.counted),
      omega (arith, here.counted, few_arcs n r here.proper),
      here.within,
    )

    pub pass_stop : {x : Refusal} → step ≡ Err x → ArcsPassed s n start (Err x)
    pass_stop e = stops s (arc_part s n) here.reading (rw e at room) (is r here.from ∙ ap (arc_step (at + 5) r) e)

    module _ {read : ArcRead} (e : step ≡ Ok (Some read)) where
      pub pass_room : Checked (length s) n at least read
      pass_room = rw e at room

      pub pass_more : ArcsRead s n start (added read.kind r read.arc) (key read.kind read.arc.place + 1) (at + 5)
      pass_more = arc_more read pass_room (is r here.from ∙ ap (arc_step (at + 5) r) e)

  -- ---- an arc's byte in a row that has no fault: all its checks pass
  module _ {arcs : Row} {next : ℕ} (stands : arcs_at s n start ≡ fine arcs next) (kind : Kind) (is : byte_at s at ≡ kind_byte kind) (lt : at < length s) where
    no_fault : {k p : ℕ} → arc_part s n r at ≡ some (fault k p) → ⊥
    no_fault {k} {p} e =
        let f : fault k p ≡ fine arcs next = stops s (arc_part s n) here.reading lt e ∙ stands in
        cc

    passes_5 : at + 5 ≤ length s
    passes_5 = elim (dec_le (at + 5) (length s)) [ yes le ↦ le | no out ↦ absurd (no_fault (arc_cut s n at r kind is (omega arith))) ]

    below_n : word_at s (at + 1) < n
    below_n = elim (dec_lt (word_at s (at + 1)) n) [ yes in-it ↦ in-it | no out ↦ absurd (no_fault (arc_beyond s n at r kind is passes_5 (omega arith))) ]

    short : word_at s (at + 1) < 65536
    short = omega (arith, below_n)

    weighs : 0 < word_at s (at + 3)
    weighs = elim (dec_lt 0 (word_at s (at + 3))) [ yes some-weight ↦ some-weight | no out ↦ absurd (no_fault (arc_weightless s n at r kind is passes_5 (omega arith))) ]

    in_turn : least ≤ key kind (word_at s (at + 1))
    in_turn = elim (dec_le least (key kind (word_at s (at + 1)))) [ yes up ↦ up | no out ↦ absurd (no_fault (arc_disorder s n at r kind is passes_5 least here.from short below_n weighs (omega arith))) ]

    abbrev known : ArcRead
    known = record { kind = kind; arc = arc_there s at }

    pub known_room : Checked (length s) n at least known
    known_room = (below_n, weighs, in_turn, passes_5)

    pub known_more : ArcsRead s n start (added kind r (arc_there s at)) (key kind (word_at s (at + 1)) + 1) (at + 5)
    known_more = arc_more known known_room (arc_goes s n at r kind is passes_5 least here.from short below_n weighs in_turn)

-- ---- the arcs of a row that has no fault, in the front of a list of so many
pub record Loaded (s : List ℕ) (start size : ℕ) (arcs : List Arc) (to : Ends) (at : ℕ) : Type 0 where
  pub long : length arcs ≡ size
  pub enough : most_arcs (length s) ≤ size
  pub counted : to.hinders * 5 ≤ at
  pub within : EndsWithin arcs to.takes to.puts to.hinders
  pub read : (n : ℕ) (r : Row) (next : ℕ) → n ≤ 4096 → arcs_at s n start ≡ fine r next
      → (least : ℕ) × ArcsRead s n start (row_in arcs to.takes to.puts to.hinders) least at

abbrev pub no_ends : Ends
no_ends = record { takes = 0; puts = 0; hinders = 0 }

pub load_begin : (s : List ℕ) (start : ℕ) (arcs : List Arc) → most_arcs (length s) ≤ length arcs → Loaded s start (length arcs) arcs no_ends start
load_begin s start arcs e =
    record {
      long = refl;
      enough = e;
      counted = omega arith;
      within = omega arith;
      read = λ n r next small stands. (0, rw (arcs_none arcs 0 0 (omega arith)) (arcs_begin s n start));
    }

-- the kinds still end in turn
ends_rise : (kind : Kind) (arcs : List Arc) (was : Ends) → EndsWithin arcs was.takes was.puts was.hinders → was.hinders < length arcs
    → let to = later_ends kind was in EndsWithin arcs to.takes to.puts to.hinders
ends_rise Take arcs was h lt = omega arith
ends_rise Put arcs was h lt = omega arith
ends_rise Hinder arcs was h lt = omega arith

one_end_more : (kind : Kind) (was : Ends) → (later_ends kind was).hinders ≡ was.hinders + 1
one_end_more Take was = refl
one_end_more Put was = refl
one_end_more Hinder was = refl

module _ {s : List ℕ} {start size : ℕ} {arcs : List Arc} {to : Ends} {at : ℕ} (here : Loaded s start size arcs to at) where
  abbrev R : Row
  R = row_in arcs to.takes to.puts to.hinders

  -- as many as the list's front
  row_count : arc_count R ≡ to.hinders
  unfolding arc_count
  row_count =
      let w = here.within in
      omega (arith, w, length_arcs arcs 0 to.takes (omega (arith, w)), length_arcs arcs to.takes to.puts (omega (arith, w)), length_arcs arcs to.puts to.hinders w.2)

  -- another byte ends the row
  pub load_end : ArcHere s at None → (n : ℕ) (r : Row) (next : ℕ) → n ≤ 4096 → arcs_at s n start ≡ fine r next → (R ≡ r) × Proper n r
  load_end none_here n r next small stands =
      let so_far = (here.read n r next small stands).1 in
      let e : fine R at ≡ fine r next = ends s (arc_part s n) so_far.reading (arc_none s n at R none_here) ∙ stands in
      let same : R ≡ r = cc in
      (same, subst (Proper n) same so_far.proper)

  -- an arc's byte: there is room for the arc, and the row has it
  module _ (stand : ArcsStand s start) (kind : Kind) (byte : ArcHere s at (Some kind)) where
    abbrev a : Arc
    a = arc_there s at

    so_far : (least : ℕ) × ArcsRead s stand.places start R least at
    so_far = here.read stand.places stand.arcs stand.next stand.few stand.is

    pub load_inside : at + 5 ≤ length s
    load_inside = (known_room so_far.1 stand.few stand.is kind byte.1 byte.0).3

    -- one more fits too
    pub few : to.hinders < 12288
    few =
        omega (
          arith,
          stand.few,
          row_count,
          one_more kind R a,
          few_arcs stand.places (added kind R a) (known_more so_far.1 stand.few stand.is kind byte.1 byte.0).proper,
        )

    pub load_room : to.hinders < length arcs
    load_room = omega (arith, few, load_inside, here.counted, here.enough, here.long)

    -- over any flat places over which the row has no fault, it has this arc
    pub load_more : Loaded s start size (set arcs to.hinders a) (later_ends kind to) (at + 5)
    load_more =
        let to' = later_ends kind to in
        let rise = ends_rise kind arcs to here.within load_room in
        record {
          long = length-set arcs to.hinders a ∙ here.long;
          enough = here.enough;
          counted = omega (arith, here.counted, one_end_more kind to);
          within = omega (arith, rise, length-set arcs to.hinders a);
          read = λ n r next small stands.
              let old = here.read n r next small stands in
              let room = known_room old.1 small stands kind byte.1 byte.0 in
              let same = row-added arcs to a old.0 load_room here.within.0 here.within.1 old.1.from (omega (arith, room.0)) kind room.2 in
              (key kind (word_at s (at + 1)) + 1, rw (← same) (known_more old.1 small stands kind byte.1 byte.0));
        }
