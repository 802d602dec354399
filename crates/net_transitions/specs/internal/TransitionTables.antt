-- What the tables of a net hold of its arcs and transitions, that a reading leaves for later calls.
use Rattle.std.specs.Prelude.{◌≡◌, ◌<◌, ◌≤◌, ◌+◌, ◌*◌, if◌then◌else◌, Result, Ok, Err}
use Rattle.std.specs.Prelude as std
use Rattle.reading.specs.Basics.{ℕ, List, [], Option, none, some, option_map, with, any, length, get_or, eqb, byte_at}
use Rattle.reading.specs.Reading.{Answer, fine, fault, ◌and_then◌, whole}
use Rattle.reading.specs.Refusals.{number_of}
use Rattle.net.specs.Net.{Guard, always, Expression, Arc, Transition, Net, place_at, arc_on, in_expression, variables_of, binding_space, in_transition, no_transition, scope}
use Rattle.net.specs.Reader.{read_guard, read_guard_if, read_expression}
use Rattle.net_transitions.specs.Transitions.{arc_part, ended, transition_part}
use Rattle.net.specs.internal.ReaderEnums.{bits, scope_of}
use Rattle.reading.specs.declared.refusal.Refusal.{Refusal}
use Rattle.net.specs.declared.Read.{Read}
use Rattle.net.specs.declared.PlaceSets.{PlaceSets}
use Rattle.net.specs.declared.scope.Scope.{Scope}
use Rattle.net_parts.specs.declared.Part.{Part}
use Rattle.net_parts.specs.internal.Steps.{Keeps}
use Rattle.net_parts.specs.internal.Tables.{places_of}
use Rattle.net_transitions.specs.declared.arc.ArcStep.{ArcStep}
use Rattle.net_transitions.specs.declared.transition.TransitionStep.{TransitionStep}
use Rattle.net_transitions.specs.declared.transitions.Head.{Head}

-- ---- refusals
-- what is read, if anything, is a fault, and the refusal has its number and its place
pub record Refuses {A : Type 0} (x : Option (Answer A)) (r : Refusal) : Type 0 where
  pub number : ℕ
  pub is : x ≡ some (fault number r.place)
  pub reason : number ≡ number_of r.reason

-- ---- arcs
-- what stands at a place of the file, by a reading
pub record Standing {A : Type 0} (read : ℕ → Answer A) (a : A) (at : ℕ) : Type 0 where
  pub next : ℕ
  pub reads : read at ≡ fine a next

-- a slot that says where a value stands in the file: 0 where there is none, which no value's place is
abbrev pub Slot : {A : Type 0} → (ℕ → Answer A) → Option A → ℕ → Type 0
Slot read none at = at ≡ 0
Slot read (some a) at = (0 < at) × Standing read a at

-- the slot of each arc of a transition: 32 a kind, from input on
abbrev pub RowHolds : List ℕ → Net → List Arc → (ℕ → ℕ) → Type 0
RowHolds s n arcs slot =
    (k p : ℕ) → k < 3 → p < length n.places
    → Slot (read_expression s n (place_at n p) 16) (option_map (λ a. a.expression) (arc_on arcs (0x16 + k) p)) (slot (k * 32 + p))

-- the net that a transition is read over: sets, variables, and places by their sets
abbrev pub over : Scope → List PlaceSets → Net
over scope kinds = scope_of scope (places_of kinds)

-- an arc that was read over these slots: its slot, which was free, and the variables in its expression
pub record ArcRead (s : List ℕ) (n : Net) (arcs : List Arc) (at : ℕ) (slots : ℕ → ℕ) (slot uses next : ℕ) : Type 0 where
  pub kind : ℕ
  pub place : ℕ
  pub expression : Expression
  pub of_three : kind < 3
  pub known : place < length n.places
  pub is : slot ≡ kind * 32 + place
  pub free : slots slot ≡ 0
  pub reads : read_expression s n (place_at n place) 16 (at + 2) ≡ fine expression next
  pub used : uses ≡ bits (λ v. in_expression v expression) 32
  pub goes : arc_part s n arcs at ≡ some (fine (with arcs (record { kind = 0x16 + kind; place = place; expression = expression })) next)

abbrev pub ArcTold : List ℕ → Net → List Arc → ℕ → (ℕ → ℕ) → Result (std.Option ArcStep) Refusal → Type 0
ArcTold s n arcs at slots (Ok std.None) = arc_part s n arcs at ≡ none
ArcTold s n arcs at slots (Ok (std.Some a)) = ArcRead s n arcs at slots a.slot a.uses a.next
ArcTold s n arcs at slots (Err r) = Refuses (arc_part s n arcs at) r

abbrev pub ArcRoom : ℕ → ℕ → Result (std.Option ArcStep) Refusal → Type 0
ArcRoom len at r = Keeps (λ a. (a.slot < 96) × (at + 2 < a.next) × (a.next ≤ len)) len at r

-- the arcs of a transition that were read: their slots, and the variables in their expressions
pub record ArcsRead (s : List ℕ) (n : Net) (start : ℕ) (slots : ℕ → ℕ) (uses next : ℕ) : Type 0 where
  pub arcs : List Arc
  pub read : fine arcs next ≡ whole s (arc_part s n) [] start
  pub holds : RowHolds s n arcs slots
  pub used : uses ≡ bits (λ v. any (λ a. in_expression v a.expression) arcs) 32

abbrev pub ArcsTold : List ℕ → Net → ℕ → (ℕ → ℕ) → Result Read Refusal → Type 0
ArcsTold s n start slots (Ok r) = ArcsRead s n start slots r.uses r.next
ArcsTold s n start slots (Err r) = Refuses (some (whole s (arc_part s n) [] start)) r

abbrev pub ArcsRoom : ℕ → ℕ → Result Read Refusal → Type 0
ArcsRoom len start (Ok r) = (start ≤ r.next) × (start ≤ len → r.next ≤ len)
ArcsRoom len start (Err r) = Unit {0}

-- ---- transitions
-- where a guard stands, if there is one
abbrev pub guard_place : List ℕ → ℕ → std.Option ℕ
guard_place s at = if eqb (byte_at s at) 0x15 then std.Some (at + 1) else std.None

abbrev pub GuardHolds : List ℕ → Net → Guard → std.Option ℕ → Type 0
GuardHolds s n guard std.None = guard ≡ always
GuardHolds s n guard (std.Some at) = (0 < at) × Standing (read_guard s n 16) guard at

-- what the tables hold of a transition: where its guard and its arcs stand, and its variables, four at most
pub record TransitionHolds (s : List ℕ) (n : Net) (t : Transition) (guard : std.Option ℕ) (uses : ℕ) (slot : ℕ → ℕ) : Type 0 where
  pub guarded : GuardHolds s n t.guard guard
  pub arced : RowHolds s n t.arcs slot
  pub used : uses ≡ bits (λ v. in_transition v t) 32
  pub few : length (variables_of n t) ≤ 4

-- a transition that ends: the binding space with it, or the fault
abbrev pub ClosedTold : List ℕ → Net → List Transition → ℕ → Transition → ℕ → Result ℕ Refusal → Type 0
ClosedTold s n transitions at t end (Ok space) =
    (ended s n transitions at t end ≡ fine (with transitions t) end) × (binding_space n (with transitions t) ≡ space) × (length (variables_of n t) ≤ 4)
ClosedTold s n transitions at t end (Err r) = Refuses (some (ended s n transitions at t end)) r

abbrev pub ClosedRoom : Result ℕ Refusal → Type 0
ClosedRoom (Ok space) = space ≤ 65536
ClosedRoom (Err r) = Unit {0}

-- a transition after its 0x14, from next on: its guard, its arcs, and its end
abbrev pub inside : List ℕ → Net → List Transition → ℕ → ℕ → Answer (List Transition)
inside s n transitions at next =
    read_guard_if s n next and_then λ guard more.
    whole s (arc_part s n) [] more and_then λ arcs end.
    ended s n transitions at (record { guard = guard; arcs = arcs }) end

-- a step of the transition part, as x, and what the code tells of it
pub record TransitionRead (s : List ℕ) (n : Net) (transitions : List Transition) (x : Option (Answer (List Transition))) (slot : ℕ → ℕ) (guard : std.Option ℕ) (uses space next : ℕ) : Type 0 where
  pub transition : Transition
  pub goes : x ≡ some (fine (with transitions transition) next)
  pub holds : TransitionHolds s n transition guard uses slot
  pub wide : binding_space n (with transitions transition) ≡ space

abbrev pub TransitionTold : List ℕ → Net → List Transition → Option (Answer (List Transition)) → (ℕ → ℕ) → Result TransitionStep Refusal → Type 0
TransitionTold s n transitions x slot (Ok t) = TransitionRead s n transitions x slot t.guard t.uses t.space t.next
TransitionTold s n transitions x slot (Err r) = Refuses x r

abbrev pub TransitionRoom : ℕ → ℕ → Result TransitionStep Refusal → Type 0
TransitionRoom len at (Ok t) = (t.space ≤ 65536) × (at < t.next) × (t.next ≤ len)
TransitionRoom len at (Err r) = at < len

-- the same where there may be no transition
abbrev pub EntryTold : List ℕ → Net → List Transition → Option (Answer (List Transition)) → (ℕ → ℕ) → Result (std.Option TransitionStep) Refusal → Type 0
EntryTold s n transitions x slot (Ok std.None) = x ≡ none
EntryTold s n transitions x slot (Ok (std.Some t)) = TransitionRead s n transitions x slot t.guard t.uses t.space t.next
EntryTold s n transitions x slot (Err r) = Refuses x r

abbrev pub EntryRoom : ℕ → ℕ → Result (std.Option TransitionStep) Refusal → Type 0
EntryRoom len at r = Keeps (λ t. (t.space ≤ 65536) × (at < t.next) × (t.next ≤ len)) len at r

-- one that goes on was among the first 32
abbrev pub TransitionFew : ℕ → Result (std.Option TransitionStep) Refusal → Type 0
TransitionFew count (Ok std.None) = Unit {0}
TransitionFew count (Ok (std.Some t)) = count < 32
TransitionFew count (Err r) = Unit {0}

-- the one past the end of the table of heads
abbrev pub no_head : Head
no_head = record { uses = 0; guard = std.None }

-- what the tables hold of each transition: its variables, where its guard stands, and its row of 96 slots
abbrev pub TransitionsHold : List ℕ → Net → List Transition → List Head → List ℕ → Type 0
TransitionsHold s n transitions heads arcs =
    (t : ℕ) → t < length transitions
    → TransitionHolds s n (get_or transitions t no_transition) (get_or heads t no_head).guard (get_or heads t no_head).uses (λ i. get_or arcs (t * 96 + i) 0)

pub record TransitionsRead (s : List ℕ) (n : Net) (start : ℕ) (heads : List Head) (arcs : List ℕ) (count space next : ℕ) : Type 0 where
  pub transitions : List Transition
  pub read : fine transitions next ≡ whole s (transition_part s n) [] start
  pub are : length transitions ≡ count
  pub few : count ≤ 32
  pub wide : binding_space n transitions ≡ space
  pub bounded : space ≤ 65536
  pub holds : TransitionsHold s n transitions heads arcs

abbrev pub TransitionsTold : List ℕ → Net → ℕ → List Head → List ℕ → Result Part Refusal → Type 0
TransitionsTold s n start heads arcs (Ok p) = TransitionsRead s n start heads arcs p.count p.total p.next
TransitionsTold s n start heads arcs (Err r) = Refuses (some (whole s (transition_part s n) [] start)) r
