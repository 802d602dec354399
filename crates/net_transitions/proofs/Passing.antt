-- Where the loop over the transitions stands. Assumes nothing.
use Rattle.std.specs.Prelude.{◌+◌, ◌*◌, ◌∷◌}
use mathlib.Core.Path.{◌≡◌, sym, ap, ◌∙◌}
use mathlib.Core.Logic.{⊎_elim}
use Prim.Native.Nat.{◌≤◌, ◌<◌}
use native.Mathlib.Omega.{arith}
use native.Mathlib.Nat.{eq-or-lt_of_le}
use lib.ListN.{set, length-set, length-append, get_or-append}
use lib.Seq.{get_or-append_seam, get_or-set_same, get_or-set_other}
use Rattle.reading.specs.Basics.{ℕ, List, [], none, some, length, get_or, with}
use Rattle.reading.specs.Reading.{whole}
use Rattle.reading.proofs.Parts.{Reading, goes_on, ends, stops}
use Rattle.net.specs.Net.{Transition, Net, binding_space, no_transition}
use Rattle.net_transitions.specs.Transitions.{transition_part}
use Rattle.net_transitions.specs.internal.TransitionTables.{Refuses, TransitionHolds, TransitionRead, no_head, TransitionsHold, TransitionsRead}
use Rattle.net_transitions.specs.declared.transition.TransitionStep.{TransitionStep}
use Rattle.net_transitions.specs.declared.transitions.Head.{Head}
use Rattle.reading.specs.declared.refusal.Refusal.{Refusal}
use Rattle.net_transitions.proofs.Transitioning.{row_same}

-- one more transition, with its row in the table
module _ (s : List ℕ) (n : Net) (few : length n.places ≤ 32) (heads : List Head) (arcs left : List ℕ) (ts : List Transition) (count : ℕ) (are : length ts ≡ count)
    (room : count < 32) (sized : length heads ≡ 32) (kept : (i : ℕ) → i < count * 96 → get_or left i 0 ≡ get_or arcs i 0) where
  pub transitions_more : (x : Transition) (h : Head) → TransitionHolds s n x h.guard h.uses (λ i. get_or left (count * 96 + i) 0) → TransitionsHold s n ts heads arcs
      → TransitionsHold s n (with ts x) (set heads count h) left
  transitions_more x h new here t lt = ⊎_elim last earlier (eq-or-lt_of_le (let h : t ≤ count = omega (arith, length-append ts (x ∷ [])) in h))
    where
      now : List Head
      now = set heads count h

      is_there : TransitionHolds s n (get_or (with ts x) count no_transition) (get_or now count no_head).guard (get_or now count no_head).uses (λ i. get_or left (count * 96 + i) 0)
      is_there = rw (
        ap (λ k. get_or (with ts x) k no_transition) (sym are) ∙ get_or-append_seam ts x [] no_transition,
        get_or-set_same heads count h no_head (omega arith),
      ) new

      last : t ≡ count → TransitionHolds s n (get_or (with ts x) t no_transition) (get_or now t no_head).guard (get_or now t no_head).uses (λ i. get_or left (t * 96 + i) 0)
      last e = rw e is_there

      earlier : t < count → TransitionHolds s n (get_or (with ts x) t no_transition) (get_or now t no_head).guard (get_or now t no_head).uses (λ i. get_or left (t * 96 + i) 0)
      earlier l =
          let old = here t (omega arith) in
          rw (get_or-append ts (x ∷ []) no_transition t (omega arith), get_or-set_other heads count t h no_head (λ z. omega arith))
          (record {
            guarded = old.guarded;
            arced = row_same s n few (λ i. get_or arcs (t * 96 + i) 0) (λ i. get_or left (t * 96 + i) 0) (λ i z. sym (kept (t * 96 + i) (omega arith))) _ old.arced;
            used = old.used;
            few = old.few;
          })

-- the rows of the transitions so far are as they were
pub transitions_kept : (s : List ℕ) (n : Net) → length n.places ≤ 32 → (heads : List Head) (arcs left : List ℕ) (ts : List Transition) (count : ℕ) → length ts ≡ count
    → ((i : ℕ) → i < count * 96 → get_or left i 0 ≡ get_or arcs i 0) → TransitionsHold s n ts heads arcs → TransitionsHold s n ts heads left
transitions_kept s n few heads arcs left ts count are kept here t lt =
    let old = here t lt in
    record {
      guarded = old.guarded;
      arced = row_same s n few (λ i. get_or arcs (t * 96 + i) 0) (λ i. get_or left (t * 96 + i) 0) (λ i z. sym (kept (t * 96 + i) (omega arith))) _ old.arced;
      used = old.used;
      few = old.few;
    }

pub record Passing (s : List ℕ) (n : Net) (start : ℕ) (heads : List Head) (arcs : List ℕ) (count space at : ℕ) : Type 0 where
  pub sized : length heads ≡ 32
  pub transitions : List Transition
  pub are : length transitions ≡ count
  pub few : count ≤ 32
  pub wide : binding_space n transitions ≡ space
  pub bounded : space ≤ 65536
  pub reading : Reading s (transition_part s n) transitions at (whole s (transition_part s n) [] start)
  pub holds : TransitionsHold s n transitions heads arcs

module _ {s : List ℕ} {n : Net} {start : ℕ} {heads : List Head} {arcs : List ℕ} {count space at : ℕ} (here : Passing s n start heads arcs count space at) (left : List ℕ)
    (kept : (i : ℕ) → i < count * 96 → get_or left i 0 ≡ get_or arcs i 0) where
  pub passing_ends : length n.places ≤ 32 → ((ts : List Transition) → length ts ≡ count → binding_space n ts ≡ space → transition_part s n ts at ≡ none)
      → TransitionsRead s n start heads left count space at
  passing_ends small is = record {
    transitions = here.transitions;
    read = ends s (transition_part s n) here.reading (is here.transitions here.are here.wide);
    are = here.are;
    few = here.few;
    wide = here.wide;
    bounded = here.bounded;
    holds = transitions_kept s n small heads arcs left here.transitions count here.are kept here.holds;
  }

  pub passing_stops : {r : Refusal} → ((ts : List Transition) → length ts ≡ count → binding_space n ts ≡ space → Refuses (transition_part s n ts at) r) → at < length s
      → Refuses (some (whole s (transition_part s n) [] start)) r
  passing_stops is inside =
      let h = is here.transitions here.are here.wide in record { number = h.number; is = ap some (sym (stops s (transition_part s n) here.reading inside h.is)); reason = h.reason }

  pub passing_goes : length n.places ≤ 32 → {t : TransitionStep}
      → ((ts : List Transition) → length ts ≡ count → binding_space n ts ≡ space → TransitionRead s n ts (transition_part s n ts at) (λ i. get_or left (count * 96 + i) 0) t.guard t.uses t.space t.next)
      → (t.space ≤ 65536) × (at < t.next) × (t.next ≤ length s) → count < 32
      → Passing s n start (set heads count (record { uses = t.uses; guard = t.guard })) left (count + 1) t.space t.next
  passing_goes small {t} is b lt =
      let h = is here.transitions here.are here.wide in
      record {
        sized = length-set heads count (record { uses = t.uses; guard = t.guard }) ∙ here.sized;
        transitions = with here.transitions h.transition;
        are = length-append here.transitions (h.transition ∷ []) ∙ ap (λ k. k + 1) here.are;
        few = omega arith;
        wide = h.wide;
        bounded = b.0;
        reading = goes_on s (transition_part s n) (with here.transitions h.transition) t.next here.reading b.1 b.2 h.goes;
        holds = transitions_more s n small heads arcs left here.transitions count here.are lt here.sized kept
            h.transition (record { uses = t.uses; guard = t.guard }) h.holds here.holds;
      }
