-- How arcs are read, and where the loop over them stands. Assumes nothing.
use Rattle.std.specs.Prelude.{◌+◌, ◌*◌, ◌∷◌, Result, Ok, Err}
use mathlib.Core.Path.{◌≡◌, refl, sym, ap, fun_ext, ◌∙◌}
use mathlib.Core.Bool.{Bool, true, false, ◌&&◌, ◌||◌}
use Prim.Native.Nat.{◌≤◌, ◌<◌, ◌-◌}
use native.Mathlib.Omega.{arith}
use borrow.Author.Tests.{lt-ltb, le-ltb, eq-eqb, ne_eqb, eqb-true, eqb-false, ltb-true, ltb-false}
use lib.Bits.{bit_or}
use lib.ListN.{set, length-set}
use lib.Seq.{get_or-set_same, get_or-set_other}
use Rattle.reading.specs.Basics.{ℕ, zero, suc, List, [], Option, some, none, option_map, absent, length, get_or, with, find, any, eqb, ltb, byte_at}
use Rattle.reading.specs.Reading.{Answer, fine, fault, under, whole}
use Rattle.reading.specs.Refusals.{number_of}
use Rattle.reading.proofs.Commands.{end, other, passes, done, fails, later, standing_none, stands_cut, stands_fails, stands_goes, both_hold, first_fails, second_fails}
use Rattle.reading.proofs.Parts.{Reading, begins, goes_on, ends, stops}
use Rattle.net.specs.Net.{Expression, Place, single, Arc, Net, place_at, arc_on, ceiling, in_expression}
use Rattle.net.specs.Reader.{width_of, read_expression}
use Rattle.net_transitions.specs.Transitions.{arc_part}
use Rattle.net.specs.internal.ReaderEnums.{bits, told, place_in, scope_of, answer_of}
use Rattle.net.specs.internal.ReaderEnums.{whole as whole_read}
use Rattle.arc_expressions.specs.internal.ReaderEnums.{expression_told}
use Rattle.net_parts.specs.internal.Tables.{places_of}
use Rattle.net_transitions.specs.internal.TransitionTables.{Refuses, over, Standing, Slot, RowHolds, ArcRead, ArcsRead}
use Rattle.reading.specs.declared.refusal.Refusal.{Refusal}
use Rattle.net.specs.declared.Read.{Read}
use Rattle.net.specs.declared.PlaceSets.{PlaceSets}
use Rattle.net.specs.declared.scope.Scope.{Scope}
use Rattle.net_transitions.specs.declared.arc.ArcStep.{ArcStep}
use Rattle.net.proofs.Shut.{commands}
use Rattle.net.proofs.Answers.{bits_or}
use Rattle.net_parts.proofs.Placing.{length_places}
use Rattle.net_parts.proofs.Tokening.{find_new, find-same}
use Rattle.net.proofs.Inside.{expression_ends}

-- the place of a number, by its sets
pub place_at_lem : (kinds : List PlaceSets) (p : ℕ) (instead : PlaceSets) → p < length kinds → get_or (places_of kinds) p (single 0) ≡ place_in (get_or kinds p instead)
unfolding places_of
place_at_lem [] p instead lt = absurd (omega arith)
place_at_lem (k ∷ kinds) zero instead lt = refl
place_at_lem (k ∷ kinds) (suc p) instead lt = place_at_lem kinds p instead (omega arith)

-- ---- refusals
-- a fault goes through what follows it
pub refuses_on : {A B : Type 0} (f : Answer A → Answer B) → ((k p : ℕ) → f (fault k p) ≡ fault k p) → {x : Answer A} {r : Refusal} → Refuses (some x) r → Refuses (some (f x)) r
refuses_on f same {x} {r} h = let e : x ≡ fault h.number r.place = cc in record { number = h.number; is = ap some (ap f e ∙ same h.number r.place); reason = h.reason }

-- ---- slots
pub slot_empty : {A : Type 0} (reads : ℕ → Answer A) (o : Option A) (at : ℕ) → at ≡ 0 → Slot reads o at → o ≡ none
slot_empty reads none at e h = refl
slot_empty reads (some a) at e h = absurd (omega (arith, h.0))

pub slot_full : {A : Type 0} (reads : ℕ → Answer A) (o : Option A) (at : ℕ) → 0 < at → Slot reads o at → absent o ≡ false
slot_full reads none at lt h = absurd (omega arith)
slot_full reads (some a) at lt h = refl

pub slot_is : {A : Type 0} (reads : ℕ → Answer A) {o q : Option A} {at to : ℕ} → o ≡ q → at ≡ to → Slot reads q to → Slot reads o at
slot_is reads e f h = rw (e, f) h

absent_of : {A B : Type 0} (f : A → B) (o : Option A) → absent (option_map f o) ≡ absent o
absent_of f none = refl
absent_of f (some a) = refl

none_of : {A B : Type 0} (f : A → B) (o : Option A) → option_map f o ≡ none → o ≡ none
none_of f none e = refl
none_of f (some a) e = absurd (let w : ◌≡◌ {A = ℕ} 0 1 = cc in omega arith)

-- ---- one step
-- a kind is one of three
by_kind : (P : ℕ → Type 0) (k : ℕ) → k < 3 → P 0 → P 1 → P 2 → P k
by_kind P zero lt a b c = a
by_kind P (suc zero) lt a b c = b
by_kind P (suc (suc zero)) lt a b c = c
by_kind P (suc (suc (suc k))) lt a b c = absurd (omega arith)

module _ (s : List ℕ) (n : Net) (arcs : List Arc) (at : ℕ) where
  pub arcs_below : byte_at s at < 0x16 → arc_part s n arcs at ≡ none
  unfolding commands arc_part
  arcs_below lt = standing_none _ _ _
      (other (ne_eqb (byte_at s at) 0x16 (λ e. omega arith)) (other (ne_eqb (byte_at s at) 0x17 (λ e. omega arith)) (other (ne_eqb (byte_at s at) 0x18 (λ e. omega arith)) end)))

  pub arcs_above : 0x18 < byte_at s at → arc_part s n arcs at ≡ none
  unfolding commands arc_part
  arcs_above lt = standing_none _ _ _
      (other (ne_eqb (byte_at s at) 0x16 (λ e. omega arith)) (other (ne_eqb (byte_at s at) 0x17 (λ e. omega arith)) (other (ne_eqb (byte_at s at) 0x18 (λ e. omega arith)) end)))

  module _ (k : ℕ) (of_three : k < 3) (stands : byte_at s at ≡ 0x16 + k) where
    pub arcs_cut : length s < at + 2 → arc_part s n arcs at ≡ some (fault 2 (length s))
    unfolding commands arc_part
    arcs_cut lt = by_kind (λ k. byte_at s at ≡ 0x16 + k → arc_part s n arcs at ≡ some (fault 2 (length s))) k of_three
        (λ e. stands_cut _ _ 0x16 _ e refl lt) (λ e. stands_cut _ _ 0x17 _ e refl lt) (λ e. stands_cut _ _ 0x18 _ e refl lt) stands

    module _ (whole-there : at + 2 ≤ length s) (p : ℕ) (place_is : p ≡ byte_at s (at + 1)) where
      pub arcs_no_place : length n.places ≤ p → arc_part s n arcs at ≡ some (fault 5 at)
      unfolding commands arc_part
      arcs_no_place le =
          let f : ltb (byte_at s (at + 1)) (length n.places) ≡ false = rw (← place_is) (le-ltb p (length n.places) le) in
          by_kind (λ k. byte_at s at ≡ 0x16 + k → arc_part s n arcs at ≡ some (fault 5 at)) k of_three
          (λ e. stands_fails _ _ 0x16 _ e refl whole-there (fails f)) (λ e. stands_fails _ _ 0x17 _ e refl whole-there (fails f)) (λ e. stands_fails _ _ 0x18 _ e refl whole-there (fails f)) stands

      module _ (known : p < length n.places) where
        there : ltb (byte_at s (at + 1)) (length n.places) ≡ true
        there = rw (← place_is) (lt-ltb p (length n.places) known)

        pub arcs_again : absent (arc_on arcs (0x16 + k) p) ≡ false → arc_part s n arcs at ≡ some (fault 9 at)
        unfolding commands arc_part
        arcs_again f =
            by_kind (λ k. byte_at s at ≡ 0x16 + k → absent (arc_on arcs (0x16 + k) (byte_at s (at + 1))) ≡ false → arc_part s n arcs at ≡ some (fault 9 at)) k of_three
            (λ e f. stands_fails _ _ 0x16 _ e refl whole-there (later there (fails f))) (λ e f. stands_fails _ _ 0x17 _ e refl whole-there (later there (fails f)))
            (λ e f. stands_fails _ _ 0x18 _ e refl whole-there (later there (fails f))) stands (rw (← place_is) f)

        pub arcs_go : arc_on arcs (0x16 + k) p ≡ none
            → arc_part s n arcs at ≡ some (under (λ e. with arcs (record { kind = 0x16 + k; place = p; expression = e })) (read_expression s n (place_at n p) 16 (at + 2)))
        unfolding commands arc_part
        arcs_go f =
            rw place_is (by_kind (λ k. byte_at s at ≡ 0x16 + k → arc_on arcs (0x16 + k) (byte_at s (at + 1)) ≡ none → arc_part s n arcs at
            ≡ some (under (λ e. with arcs (record { kind = 0x16 + k; place = byte_at s (at + 1); expression = e })) (read_expression s n (place_at n (byte_at s (at + 1))) 16 (at + 2)))) k of_three
            (λ e f. stands_goes _ _ 0x16 _ e refl whole-there (passes there (passes (ap absent f) done))) (λ e f. stands_goes _ _ 0x17 _ e refl whole-there (passes there (passes (ap absent f) done)))
            (λ e f. stands_goes _ _ 0x18 _ e refl whole-there (passes there (passes (ap absent f) done))) stands (rw (← place_is) f))

-- ---- what the code's enum tells of an expression, or of a guard
pub record Heard {A : Type 0} (stands : ℕ → A → Bool) (x : Answer A) (next uses : ℕ) : Type 0 where
  pub value : A
  pub is : x ≡ fine value next
  pub used : uses ≡ bits (λ v. stands v value) 32

module _ {A : Type 0} (measure : A → ℕ) (stands : ℕ → A → Bool) where
  pub heard : (x : Answer A) {r : Read} → fine r r.next ≡ told measure stands x → Heard stands x r.next r.uses
  heard (fine a n) {r} e = let q : r ≡ whole_read measure stands a n = cc in record { value = a; is = ap (λ k. fine a k) (sym (ap (λ w. w.next) q)); used = ap (λ w. w.uses) q }
  heard (fault k p) e = absurd (let w : ◌≡◌ {A = ℕ} 0 1 = cc in omega arith)

  pub heard_fault : (x : Answer A) {r : Refusal} → answer_of (Err r) ≡ told measure stands x → Refuses (some x) r
  heard_fault (fine a n) e = absurd (let w : ◌≡◌ {A = ℕ} 0 1 = cc in omega arith)
  heard_fault (fault k p) {r} e = let q : k ≡ number_of r.reason = cc in let at : p ≡ r.place = cc in record { number = k; is = ap (λ place. some (fault k place)) at; reason = q }

-- ---- the slots of a transition's arcs
module _ (s : List ℕ) (n : Net) (arcs : List Arc) (slot : ℕ → ℕ) (holds : RowHolds s n arcs slot) (k p : ℕ) (of_three : k < 3) (known : p < length n.places) where
  pub row_full : 0 < slot (k * 32 + p) → absent (arc_on arcs (0x16 + k) p) ≡ false
  row_full lt = sym (absent_of (λ a. a.expression) (arc_on arcs (0x16 + k) p))
      ∙ slot_full (read_expression s n (place_at n p) 16) (option_map (λ a. a.expression) (arc_on arcs (0x16 + k) p)) (slot (k * 32 + p)) lt (holds k p of_three known)

  pub row_free : slot (k * 32 + p) ≡ 0 → arc_on arcs (0x16 + k) p ≡ none
  row_free e = none_of (λ a. a.expression) (arc_on arcs (0x16 + k) p)
      (slot_empty (read_expression s n (place_at n p) 16) (option_map (λ a. a.expression) (arc_on arcs (0x16 + k) p)) (slot (k * 32 + p)) e (holds k p of_three known))

-- a row with one more arc
pub row_more : (s : List ℕ) (n : Net) (arcs : List Arc) (table : List ℕ) (from : ℕ) → RowHolds s n arcs (λ i. get_or table (from + i) 0) → length n.places ≤ 32 → from + 96 ≤ length table
    → (k p at : ℕ) (e : Expression) → k < 3 → p < length n.places → 0 < at → Standing (read_expression s n (place_at n p) 16) e at → get_or table (from + (k * 32 + p)) 0 ≡ 0
    → RowHolds s n (with arcs (record { kind = 0x16 + k; place = p; expression = e })) (λ i. get_or (set table (from + (k * 32 + p)) at) (from + i) 0)
row_more s n arcs table from holds few sized k p at e of_three known pos stands free k2 p2 of-three2 known2 = go (eqb (0x16 + k) (0x16 + k2)) (eqb p p2) refl refl
  where
    apart : (k2 * 32 + p2 ≡ k * 32 + p → ⊥) → eqb (0x16 + k) (0x16 + k2) && eqb p p2 ≡ false
        → Slot (read_expression s n (place_at n p2) 16) (option_map (λ a. a.expression) (arc_on (with arcs (record { kind = 0x16 + k; place = p; expression = e })) (0x16 + k2) p2)) (get_or (set table (from + (k * 32 + p)) at) (from + (k2 * 32 + p2)) 0)
    apart ne f = slot_is (read_expression s n (place_at n p2) 16)
        (ap (λ o. option_map (λ a. a.expression) o) (find-same (λ a. eqb a.kind (0x16 + k2) && eqb a.place p2) arcs (record { kind = 0x16 + k; place = p; expression = e }) f))
        (get_or-set_other table (from + (k * 32 + p)) (from + (k2 * 32 + p2)) at 0 (λ same. ne (omega arith))) (holds k2 p2 of-three2 known2)

    here : Slot (read_expression s n (place_at n p) 16) (option_map (λ a. a.expression) (arc_on (with arcs (record { kind = 0x16 + k; place = p; expression = e })) (0x16 + k) p)) (get_or (set table (from + (k * 32 + p)) at) (from + (k * 32 + p)) 0)
    here = slot_is (read_expression s n (place_at n p) 16)
        (ap (λ o. option_map (λ a. a.expression) o) (find_new (λ a. eqb a.kind (0x16 + k) && eqb a.place p) arcs (record { kind = 0x16 + k; place = p; expression = e })
        (row_free s n arcs (λ i. get_or table (from + i) 0) holds k p of_three known free) (both_hold (eqb (0x16 + k) (0x16 + k)) (eqb p p) (eq-eqb (0x16 + k) (0x16 + k) refl) (eq-eqb p p refl))))
        (get_or-set_same table (from + (k * 32 + p)) at 0 (omega arith)) (pos, stands)

    go : (x y : Bool) → eqb (0x16 + k) (0x16 + k2) ≡ x → eqb p p2 ≡ y
        → Slot (read_expression s n (place_at n p2) 16) (option_map (λ a. a.expression) (arc_on (with arcs (record { kind = 0x16 + k; place = p; expression = e })) (0x16 + k2) p2)) (get_or (set table (from + (k * 32 + p)) at) (from + (k2 * 32 + p2)) 0)
    go true true q z =
        let u : k ≡ k2 = omega (arith, eqb-true (0x16 + k) (0x16 + k2) q) in let w = eqb-true p p2 z in rw (← u, ← w) here
    go false y q z = apart (λ same. eqb-false (0x16 + k) (0x16 + k2) q (omega arith)) (first_fails (eqb (0x16 + k) (0x16 + k2)) (eqb p p2) q)
    go true false q z = apart (λ same. eqb-false p p2 z (let u = eqb-true (0x16 + k) (0x16 + k2) q in omega arith)) (second_fails (eqb (0x16 + k) (0x16 + k2)) (eqb p p2) z)

-- ---- what a step of the code tells
module _ (s : List ℕ) (n : Net) (arcs : List Arc) (at : ℕ) (slots : ℕ → ℕ) (holds : RowHolds s n arcs slots) (k : ℕ) (of_three : k < 3) (stands : byte_at s at ≡ 0x16 + k)
    (whole-there : at + 2 ≤ length s) (p : ℕ) (place_is : p ≡ byte_at s (at + 1)) (known : p < length n.places) where
  pub arc_again : 0 < slots (k * 32 + p) → arc_part s n arcs at ≡ some (fault 9 at)
  arc_again lt = arcs_again s n arcs at k of_three stands whole-there p place_is known (row_full s n arcs slots holds k p of_three known lt)

  module _ (free : slots (k * 32 + p) ≡ 0) where
    goes : arc_part s n arcs at ≡ some (under (λ e. with arcs (record { kind = 0x16 + k; place = p; expression = e })) (read_expression s n (place_at n p) 16 (at + 2)))
    goes = arcs_go s n arcs at k of_three stands whole-there p place_is known (row_free s n arcs slots holds k p of_three known free)

    pub arc_fault : {r : Refusal} → answer_of (Err r) ≡ expression_told (read_expression s n (place_at n p) 16 (at + 2)) → Refuses (arc_part s n arcs at) r
    arc_fault e = rw goes (refuses_on (under (λ e. with arcs (record { kind = 0x16 + k; place = p; expression = e }))) (λ k p. refl) (heard_fault ceiling in_expression (read_expression s n (place_at n p) 16 (at + 2)) e))

    pub arc_read : {r : Read} → fine r r.next ≡ expression_told (read_expression s n (place_at n p) 16 (at + 2)) → ArcRead s n arcs at slots (k * 32 + p) r.uses r.next
    arc_read {r} e =
        let h = heard ceiling in_expression (read_expression s n (place_at n p) 16 (at + 2)) e in
        record {
          kind = k;
          place = p;
          expression = h.value;
          of_three = of_three;
          known = known;
          is = refl;
          free = free;
          reads = h.is;
          used = h.used;
          goes = rw h.is at goes;
        }

-- a whole expression ends within the file
pub expression_within : (s : List ℕ) (n : Net) (place : Place) (left at : ℕ) {r : Read} → fine r r.next ≡ expression_told (read_expression s n place left at) → (at < r.next) × (r.next ≤ length s)
expression_within s n place left at e =
    let h = heard ceiling in_expression (read_expression s n place left at) e in rw h.is at (expression_ends s n place left at)

-- ---- the loop
or_false : (b : Bool) → b || false ≡ b
or_false true = refl
or_false false = refl

or_or : (a b c : Bool) → (a || b) || c ≡ a || (b || c)
or_or true b c = refl
or_or false b c = refl

any-with : {A : Type 0} (test : A → Bool) (l : List A) (a : A) → any test (with l a) ≡ any test l || test a
unfolding any
any-with test [] a = or_false (test a)
any-with test (x ∷ l) a = ap (λ b. test x || b) (any-with test l a) ∙ sym (or_or (test x) (any test l) (test a))

pub record Arcing (s : List ℕ) (n : Net) (start : ℕ) (old table : List ℕ) (from uses at : ℕ) : Type 0 where
  pub arcs : List Arc
  pub sized : from + 96 ≤ length table
  pub kept : (i : ℕ) → i < from → get_or table i 0 ≡ get_or old i 0
  pub after : start ≤ at
  pub within : start ≤ length s → at ≤ length s
  pub reading : Reading s (arc_part s n) arcs at (whole s (arc_part s n) [] start)
  pub holds : RowHolds s n arcs (λ i. get_or table (from + i) 0)
  pub used : uses ≡ bits (λ v. any (λ a. in_expression v a.expression) arcs) 32

-- ---- a row whose slots are set to 0, place by place: those of so many places are, and no other slot of the table changes
pub record Cleared (old table : List ℕ) (from places : ℕ) : Type 0 where
  pub sized : from + 96 ≤ length table
  pub zeros : (k p : ℕ) → k < 3 → p < places → get_or table (from + (k * 32 + p)) 0 ≡ 0
  pub kept : (i : ℕ) → ((k p : ℕ) → k < 3 → p < places → i ≡ from + (k * 32 + p) → ⊥) → get_or table i 0 ≡ get_or old i 0

-- what is 0 but at one slot is 0 everywhere, when that is set to 0
set_zero : (l : List ℕ) (j i : ℕ) → j < length l → ((i ≡ j → ⊥) → get_or l i 0 ≡ 0) → get_or (set l j 0) i 0 ≡ 0
set_zero l j i inside others = go (eqb i j) refl
  where
    go : (t : Bool) → eqb i j ≡ t → get_or (set l j 0) i 0 ≡ 0
    go true e = rw (eqb-true i j e) (get_or-set_same l j 0 0 inside)
    go false e = get_or-set_other l j i 0 0 (eqb-false i j e) ∙ others (eqb-false i j e)

pub cleared_begins : (table : List ℕ) (from : ℕ) → from + 96 ≤ length table → Cleared table table from 0
cleared_begins table from sized = record { sized = sized; zeros = λ k p hk hp. absurd (omega arith); kept = λ i other. refl }

pub cleared_goes : {old table : List ℕ} {from q : ℕ} → Cleared old table from q → q < 32 → Cleared old (set (set (set table (from + q) 0) (from + 32 + q) 0) (from + 64 + q) 0) from (q + 1)
cleared_goes {old} {table} {from} {q} l lt = record {
  sized = rw (length-set two (from + 64 + q) 0, second) l.sized;
  zeros = λ k p hk hp.
      set_zero two (from + 64 + q) (from + (k * 32 + p)) (omega (arith, second, l.sized)) (λ c. set_zero one (from + 32 + q) (from + (k * 32 + p)) (omega (arith, first, l.sized))
      (λ b. set_zero table (from + q) (from + (k * 32 + p)) (omega (arith, l.sized)) (λ a. l.zeros k p hk (below k p hk hp a b c))));
  kept = λ i other.
      get_or-set_other two (from + 64 + q) i 0 0 (λ e. other 2 q (omega arith) (omega arith) (omega arith)) ∙ get_or-set_other one (from + 32 + q) i 0 0 (λ e. other 1 q (omega arith) (omega arith) (omega arith))
      ∙ get_or-set_other table (from + q) i 0 0 (λ e. other 0 q (omega arith) (omega arith) (omega arith)) ∙ l.kept i (λ k p hk hp. other k p hk (omega arith));
}
  where
    one : List ℕ
    one = set table (from + q) 0

    two : List ℕ
    two = set one (from + 32 + q) 0

    first : length one ≡ length table
    first = length-set table (from + q) 0

    second : length two ≡ length table
    second = length-set one (from + 32 + q) 0 ∙ first

    below : (k p : ℕ) → k < 3 → p < q + 1 → (from + (k * 32 + p) ≡ from + q → ⊥) → (from + (k * 32 + p) ≡ from + 32 + q → ⊥) → (from + (k * 32 + p) ≡ from + 64 + q → ⊥) → p < q
    below k p hk hp a b c = go (ltb p q) refl
      where
        none_else : (k : ℕ) → k < 3 → q ≤ p → (from + (k * 32 + p) ≡ from + q → ⊥) → (from + (k * 32 + p) ≡ from + 32 + q → ⊥) → (from + (k * 32 + p) ≡ from + 64 + q → ⊥) → ⊥
        none_else zero h le a b c = a (omega arith)
        none_else (suc zero) h le a b c = b (omega arith)
        none_else (suc (suc zero)) h le a b c = c (omega arith)
        none_else (suc (suc (suc k))) h le a b c = omega arith

        go : (t : Bool) → ltb p q ≡ t → p < q
        go true e = ltb-true p q e
        go false e = absurd (none_else k hk (ltb-false p q e) a b c)

-- from a row whose slots of the net's places are 0
pub arcing_begins : (s : List ℕ) (n : Net) (start : ℕ) {old table : List ℕ} {from : ℕ} → from + 96 ≤ length table
    → ((k p : ℕ) → k < 3 → p < length n.places → get_or table (from + (k * 32 + p)) 0 ≡ 0)
    → ((i : ℕ) → ((k p : ℕ) → k < 3 → p < length n.places → i ≡ from + (k * 32 + p) → ⊥) → get_or table i 0 ≡ get_or old i 0) → Arcing s n start old table from 0 start
unfolding find any bits
arcing_begins s n start {old} {table} {from} sized zeros kept = record {
  arcs = [];
  sized = sized;
  kept = λ i lt. kept i (λ k p hk hp e. omega arith);
  after = omega arith;
  within = λ h. h;
  reading = begins s (arc_part s n) [] start;
  holds = zeros;
  used = refl;
}

module _ {s : List ℕ} {n : Net} {start : ℕ} {old table : List ℕ} {from uses at : ℕ} (here : Arcing s n start old table from uses at) where
  pub arcing_ends : ((arcs : List Arc) → RowHolds s n arcs (λ i. get_or table (from + i) 0) → arc_part s n arcs at ≡ none) → ArcsRead s n start (λ i. get_or table (from + i) 0) uses at
  arcing_ends is = record {
    arcs = here.arcs;
    read = ends s (arc_part s n) here.reading (is here.arcs here.holds);
    holds = here.holds;
    used = here.used;
  }

  pub arcing_stops : {r : Refusal} → ((arcs : List Arc) → RowHolds s n arcs (λ i. get_or table (from + i) 0) → Refuses (arc_part s n arcs at) r) → at < length s → Refuses (some (whole s (arc_part s n) [] start)) r
  arcing_stops is inside = let h = is here.arcs here.holds in record { number = h.number; is = ap some (sym (stops s (arc_part s n) here.reading inside h.is)); reason = h.reason }

  pub arcing_goes : length n.places ≤ 32 → {a : ArcStep} → ((arcs : List Arc) → RowHolds s n arcs (λ i. get_or table (from + i) 0) → ArcRead s n arcs at (λ i. get_or table (from + i) 0) a.slot a.uses a.next)
      → (a.slot < 96) × (at + 2 < a.next) × (a.next ≤ length s) → Arcing s n start old (set table (from + a.slot) (at + 2)) from (bit_or uses a.uses) a.next
  arcing_goes few {a} is b =
      let h = is here.arcs here.holds in
      let x : Arc = record { kind = 0x16 + h.kind; place = h.place; expression = h.expression } in
      record {
        arcs = with here.arcs x;
        sized = rw (length-set table (from + a.slot) (at + 2)) here.sized;
        kept = λ i lt. get_or-set_other table (from + a.slot) i (at + 2) 0 (λ same. omega arith) ∙ here.kept i lt;
        after = omega (arith, here.after, b.1);
        within = λ w. b.2;
        reading = goes_on s (arc_part s n) (with here.arcs x) a.next here.reading (omega (arith, b.1)) b.2 h.goes;
        holds = rw h.is (row_more s n here.arcs table from here.holds few here.sized h.kind h.place (at + 2) h.expression h.of_three h.known (omega arith)
            (record { next = a.next; reads = h.reads }) (rw h.is at h.free));
        used = joined x here.used h.used;
      }
    where
      joined : (x : Arc) → uses ≡ bits (λ v. any (λ a. in_expression v a.expression) here.arcs) 32 → a.uses ≡ bits (λ v. in_expression v x.expression) 32
          → bit_or uses a.uses ≡ bits (λ v. any (λ a. in_expression v a.expression) (with here.arcs x)) 32
      joined x p q = rw (p, q, bits_or) (ap (λ f. bits f 32) (fun_ext (λ v. sym (any-with (λ a. in_expression v a.expression) here.arcs x))))

-- ---- a step of the code, over places by their sets
module _ (s : List ℕ) (at : ℕ) (low : 0x16 ≤ byte_at s at) (high : byte_at s at ≤ 0x18) where
  kind_is : byte_at s at - 0x16 < 3
  kind_is = omega arith

  stands_there : byte_at s at ≡ 0x16 + (byte_at s at - 0x16)
  stands_there = omega arith

  -- the place after the command
  pub after-arc : {next : ℕ} → ((w : ℕ) → width_of (byte_at s at) ≡ some w → next ≡ at + (1 + w)) → next ≡ at + 2
  unfolding commands
  after-arc {next} is-next =
      by_kind (λ k. byte_at s at ≡ 0x16 + k → next ≡ at + 2) (byte_at s at - 0x16) kind_is (λ e. is-next 1 (ap width_of e)) (λ e. is-next 1 (ap width_of e)) (λ e. is-next 1 (ap width_of e)) stands_there

module _ (scope : Scope) (kinds : List PlaceSets) (slots : ℕ → ℕ) (at : ℕ) (low : 0x16 ≤ byte_at scope.file.now at) (high : byte_at scope.file.now at ≤ 0x18) {next : ℕ}
    (told : (w : ℕ) → width_of (byte_at scope.file.now at) ≡ some w → next ≡ at + (1 + w)) where
  abbrev s : List ℕ
  s = scope.file.now

  abbrev n : Net
  n = over scope kinds

  abbrev kind : ℕ
  kind = byte_at s at - 0x16

  abbrev place : ℕ
  place = byte_at s (at + 1)

  is-next : next ≡ at + 2
  is-next = after-arc s at low high told

  pub step_operand : next ≤ length s → at + 2 ≤ length s
  step_operand le = rw (← is-next) le

  pub step_cut : length s < next → (arcs : List Arc) → arc_part s n arcs at ≡ some (fault 2 (length s))
  step_cut lt arcs = arcs_cut s n arcs at kind (kind_is s at low high) (stands_there s at low high) (rw is-next at lt)

  module _ (whole-there : next ≤ length s) where
    pub step_no_place : length kinds ≤ place → (arcs : List Arc) → arc_part s n arcs at ≡ some (fault 5 at)
    step_no_place le arcs = arcs_no_place s n arcs at kind (kind_is s at low high) (stands_there s at low high) (rw is-next at whole-there) place refl (rw (length_places kinds) le)

    module _ (lt : place < length kinds) where
      known_place : place < length (places_of kinds)
      known_place = rw (length_places kinds) lt

      pub step_again : 0 < slots (kind * 32 + place) → (arcs : List Arc) → RowHolds s n arcs slots → arc_part s n arcs at ≡ some (fault 9 at)
      step_again full arcs holds = arc_again s n arcs at slots holds kind (kind_is s at low high) (stands_there s at low high) (rw is-next at whole-there) place refl known_place full

      module _ (empty : slots (kind * 32 + place) ≤ 0) (instead : PlaceSets) (x : Result Read Refusal)
          (e : (places : List Place) → answer_of x ≡ expression_told (read_expression s (scope_of scope places) (place_in (get_or kinds place instead)) 16 next)) where
        free : slots (kind * 32 + place) ≡ 0
        free = omega arith

        told_there : answer_of x ≡ expression_told (read_expression s n (place_at n place) 16 (at + 2))
        told_there = rw (place_at_lem kinds place instead lt) (rw is-next at (e (places_of kinds)))

        pub step_fault : {r : Refusal} → x ≡ Err r → (arcs : List Arc) → RowHolds s n arcs slots → Refuses (arc_part s n arcs at) r
        step_fault q arcs holds = arc_fault s n arcs at slots holds kind (kind_is s at low high) (stands_there s at low high) (rw is-next at whole-there) place refl known_place free (ap answer_of (sym q) ∙ told_there)

        pub step_read : {r : Read} → x ≡ Ok r → (arcs : List Arc) → RowHolds s n arcs slots → ArcRead s n arcs at slots (kind * 32 + place) r.uses r.next
        step_read q arcs holds = arc_read s n arcs at slots holds kind (kind_is s at low high) (stands_there s at low high) (rw is-next at whole-there) place refl known_place free (ap answer_of (sym q) ∙ told_there)

        pub step_within : {r : Read} → x ≡ Ok r → (at + 2 < r.next) × (r.next ≤ length s)
        step_within q = expression_within s n (place_at n place) 16 (at + 2) (ap answer_of (sym q) ∙ told_there)
