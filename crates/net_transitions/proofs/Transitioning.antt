-- How one transition is read. Assumes nothing.
use Rattle.std.specs.Prelude.{◌+◌, ◌*◌, ◌∷◌, if◌then◌else◌, Result, Ok, Err}
use Rattle.std.specs.Prelude as std
use mathlib.Core.Path.{◌≡◌, refl, sym, ap, ◌∙◌}
use mathlib.Core.Bool.{Bool, true, false}
use Prim.Native.Nat.{◌≤◌, ◌<◌}
use native.Mathlib.Omega.{arith}
use borrow.Author.Tests.{lt-ltb, le-ltb, ne_eqb, eqb-true, eqb-false}
use lib.Bits.{bit_or}
use Rattle.reading.specs.Basics.{ℕ, List, [], Option, some, none, option_map, given, length, with, eqb, byte_at}
use Rattle.reading.specs.Reading.{Answer, fine, fault, standing}
use Rattle.reading.proofs.Commands.{end, other, passes, done, fails, standing_none, stands_fails, stands_goes}
use Rattle.net.specs.Net.{Guard, always, Arc, Transition, Place, Net, place_at, arc_on, variables_of, binding_space, in_guard, in_transition}
use Rattle.net.specs.Reader.{width_of, command, read_guard, read_guard_if, read_expression}
use Rattle.net_transitions.specs.Transitions.{ended, transition_part}
use Rattle.net.specs.internal.ReaderEnums.{bits, guard_told, scope_of, answer_of}
use Rattle.net_parts.specs.internal.Tables.{places_of}
use Rattle.net_transitions.specs.internal.TransitionTables.{Refuses, over, RowHolds, ArcsRead, guard_place, GuardHolds, ClosedTold, inside, TransitionRead}
use Rattle.reading.specs.declared.refusal.Refusal.{Refusal}
use Rattle.net.specs.declared.Read.{Read}
use Rattle.net.specs.declared.PlaceSets.{PlaceSets}
use Rattle.net.specs.declared.scope.Scope.{Scope}
use Rattle.net.proofs.Shut.{commands}
use Rattle.net.proofs.Answers.{bits_or}
use Rattle.net.proofs.Inside.{guard_ends}
use Rattle.net_transitions.proofs.Arcing.{Heard, heard, slot_is}
use Rattle.net_parts.proofs.Totals.{stands_in}

-- ---- a guard, or none
module _ (s : List ℕ) (n : Net) (p : ℕ) where
  guard_by : {o : Option (Answer Guard)} → standing s (command 0x15 [] (read_guard s n 16) ∷ []) p ≡ o → read_guard_if s n p ≡ given o (fine always p) (λ answer. answer)
  unfolding read_guard_if
  guard_by e = rw e

  guard_there : byte_at s p ≡ 0x15 → read_guard_if s n p ≡ read_guard s n 16 (p + 1)
  unfolding commands
  guard_there e = guard_by (stands_goes _ _ 0x15 _ e refl (let h : p < length s = stands_in s p (omega arith) in omega arith) done)

  guard_none : (byte_at s p ≡ 0x15 → ⊥) → read_guard_if s n p ≡ fine always p
  unfolding commands
  guard_none ne = guard_by (standing_none _ _ _ (other (ne_eqb (byte_at s p) 0x15 ne) end))

  pub guard_holds_lem : (g : Guard) (next : ℕ) → read_guard_if s n p ≡ fine g next → GuardHolds s n g (guard_place s p)
  guard_holds_lem g next e = go (eqb (byte_at s p) 0x15) refl
    where
      go : (t : Bool) → eqb (byte_at s p) 0x15 ≡ t → GuardHolds s n g (if t then std.Some (p + 1) else std.None)
      go true q = (omega arith, record { next = next; reads = sym (guard_there (eqb-true (byte_at s p) 0x15 q)) ∙ e })
      go false q = let f = guard_none (eqb-false (byte_at s p) 0x15 q) in cc

  pub guard_within : (g : Guard) (next : ℕ) → read_guard_if s n p ≡ fine g next → p ≤ length s → (p ≤ next) × (next ≤ length s)
  guard_within g next e le = go (eqb (byte_at s p) 0x15) refl
    where
      go : (t : Bool) → eqb (byte_at s p) 0x15 ≡ t → (p ≤ next) × (next ≤ length s)
      go true q =
          let f = sym (guard_there (eqb-true (byte_at s p) 0x15 q)) ∙ e in let h = rw f at (guard_ends s n 16 (p + 1)) in (omega (arith, h.0), h.1)
      go false q = let f = guard_none (eqb-false (byte_at s p) 0x15 q) in let z : p ≡ next = cc in (omega arith, omega arith)

-- ---- the whole transition
module _ (s : List ℕ) (n : Net) (transitions : List Transition) (at next : ℕ) where
  module _ {more used : ℕ} (g : Heard in_guard (read_guard_if s n next) more used) where
    module _ {slots : ℕ → ℕ} {uses last : ℕ} (a : ArcsRead s n more slots uses last) where
      variables_joined : bit_or used uses ≡ bits (λ v. in_transition v (record { guard = g.value; arcs = a.arcs })) 32
      variables_joined = rw (g.used, a.used, bits_or)

      ends_by : inside s n transitions at next ≡ ended s n transitions at (record { guard = g.value; arcs = a.arcs }) last
      ends_by = rw (g.is, ← a.read)

      end_faults : {r : Refusal} → Refuses (some (ended s n transitions at (record { guard = g.value; arcs = a.arcs }) last)) r → Refuses (some (inside s n transitions at next)) r
      end_faults h = rw ends_by h

      transition_read : {space : ℕ} → ended s n transitions at (record { guard = g.value; arcs = a.arcs }) last ≡ fine (with transitions (record { guard = g.value; arcs = a.arcs })) last
          → binding_space n (with transitions (record { guard = g.value; arcs = a.arcs })) ≡ space → length (variables_of n (record { guard = g.value; arcs = a.arcs })) ≤ 4
          → TransitionRead s n transitions (some (inside s n transitions at next)) slots (guard_place s next) (bit_or used uses) space last
      transition_read e f h = record {
        transition = record { guard = g.value; arcs = a.arcs };
        goes = ap some (ends_by ∙ e);
        holds = record { guarded = guard_holds_lem s n next g.value more g.is; arced = a.holds; used = variables_joined; few = h };
        wide = f;
      }

-- ---- a transition by what the code's calls tell: of its guard, of its arcs, and of its end
module _ (scope : Scope) (kinds : List PlaceSets) (next : ℕ) (guard : Result Read Refusal) (of_guard : (places : List Place) → answer_of guard ≡ guard_told (read_guard_if scope.file.now (scope_of scope places) next)) where
  abbrev s : List ℕ
  s = scope.file.now

  abbrev n : Net
  n = over scope kinds

  module _ {g : Read} (whole-guard : guard ≡ Ok g) where
    heard_guard : Heard in_guard (read_guard_if s n next) g.next g.uses
    heard_guard = heard (λ g. 0) in_guard (read_guard_if s n next) (ap answer_of (sym whole-guard) ∙ of_guard (places_of kinds))

    pub guard_inside : next ≤ length s → (next ≤ g.next) × (g.next ≤ length s)
    guard_inside le = guard_within s n next heard_guard.value g.next heard_guard.is le

    module _ (slots : ℕ → ℕ) (at : ℕ) where
      module _ {last uses : ℕ} (heard_arcs : ArcsRead s n g.next slots uses last) (space : ℕ) (closed : Result ℕ Refusal)
          (of_end : (places : List Place) (transitions : List Transition) (t : Transition) → bit_or g.uses uses ≡ bits (λ v. in_transition v t) 32
          → binding_space (scope_of scope places) transitions ≡ space → ClosedTold s (scope_of scope places) transitions at t last closed)
          (transitions : List Transition) (so_far : binding_space n transitions ≡ space) where
        told_end : ClosedTold s n transitions at (record { guard = heard_guard.value; arcs = heard_arcs.arcs }) last closed
        told_end = of_end (places_of kinds) transitions (record { guard = heard_guard.value; arcs = heard_arcs.arcs }) (variables_joined s n transitions at next heard_guard heard_arcs) so_far

        pub stops_at_end : {r : Refusal} → closed ≡ Err r → Refuses (some (inside s n transitions at next)) r
        stops_at_end q = end_faults s n transitions at next heard_guard heard_arcs (rw q at told_end)

        pub reads_whole : {total : ℕ} → closed ≡ Ok total
            → TransitionRead s n transitions (some (inside s n transitions at next)) slots (guard_place s next) (bit_or g.uses uses) total last
        reads_whole q = let k = rw q at told_end in transition_read s n transitions at next heard_guard heard_arcs k.0 k.1 k.2

-- ---- the command
module _ (s : List ℕ) (n : Net) (transitions : List Transition) (at : ℕ) where
  pub transitions_other : (byte_at s at ≡ 0x14 → ⊥) → transition_part s n transitions at ≡ none
  unfolding commands transition_part
  transitions_other ne = standing_none _ _ _ (other (ne_eqb (byte_at s at) 0x14 ne) end)

  module _ (stands : byte_at s at ≡ 0x14) (there : at + 1 ≤ length s) where
    pub transitions_full : 32 ≤ length transitions → transition_part s n transitions at ≡ some (fault 4 at)
    unfolding commands transition_part
    transitions_full le = stands_fails _ _ 0x14 _ stands refl there (fails (le-ltb (length transitions) 32 le))

    pub transitions_go : {next : ℕ} → next ≡ at + 1 → length transitions < 32 → transition_part s n transitions at ≡ some (inside s n transitions at next)
    unfolding commands transition_part
    transitions_go is-next lt = rw is-next (stands_goes _ _ 0x14 _ stands refl there (passes (lt-ltb (length transitions) 32 lt) done))

-- the place after 0x14, and after the 0x15 before a guard
module _ (s : List ℕ) (at : ℕ) {next : ℕ} (is-next : (w : ℕ) → width_of (byte_at s at) ≡ some w → next ≡ at + (1 + w)) where
  pub after_transition : byte_at s at ≡ 0x14 → next ≡ at + 1
  unfolding commands
  after_transition e = is-next 0 (ap width_of e)

  pub after_mark : byte_at s at ≡ 0x15 → next ≡ at + 1
  unfolding commands
  after_mark e = is-next 0 (ap width_of e)

-- ---- what is held of a row is held of any slots that hold the same
module _ (s : List ℕ) (n : Net) (few : length n.places ≤ 32) (f g : ℕ → ℕ) (same : (i : ℕ) → i < 96 → f i ≡ g i) where
  pub row_same : (arcs : List Arc) → RowHolds s n arcs f → RowHolds s n arcs g
  row_same arcs holds k p of_three known =
      slot_is (read_expression s n (place_at n p) 16) {o = option_map (λ a. a.expression) (arc_on arcs (0x16 + k) p)} refl (sym (same (k * 32 + p) (omega arith))) (holds k p of_three known)
