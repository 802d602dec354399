-- The whole file, part after part. Assumes nothing.
use Rattle.std.specs.Prelude.{◌+◌, Result, Ok, Err}
use mathlib.Core.Path.{◌≡◌, refl, sym, ap, ◌∙◌}
use Prim.Native.Nat.{◌≤◌, ◌<◌}
use native.Mathlib.Omega.{arith}
use borrow.Author.Tests.{lt-ltb, le-ltb}
use lib.Seq.{length-take-le, get_or-take}
use Rattle.std.proofs.lemmas.List.{get_or-map}
use Rattle.reading.specs.Basics.{ℕ, List, [], some, length, get_or, take}
use Rattle.reading.specs.Reading.{Answer, fine, fault, ◌and_then◌, outcome, refused, whole, file}
use Rattle.reading.specs.Refusals.{number_of, answered}
use Rattle.reading.specs.internal.Frame.{opened, closed, going}
use Rattle.reading.proofs.Framed.{goes_in, goes_out}
use Rattle.reading.specs.declared.refusal.Refusal.{Refusal}
use Rattle.net.specs.Net.{Place, single, Transition, Tokens, Net, net, variables_of, binding_space, scope}
use Rattle.net_parts.specs.Parts.{set_part, variable_part, place_part, tokens_part}
use Rattle.net_transitions.specs.Transitions.{transition_part}
use Rattle.net_file.specs.NetFile.{content, read_net}
use Rattle.net.specs.internal.ReaderEnums.{place_in}
use Rattle.net.specs.declared.PlaceSets.{PlaceSets}
use Rattle.net_parts.specs.internal.Tables.{places_of, places_read, Started, TokensRead, TokensTold}
use Rattle.net_transitions.specs.internal.TransitionTables.{TransitionsRead, TransitionsTold}
use Rattle.net_parts.specs.internal.Steps.{sets_read}
use Rattle.net_parts.specs.declared.Part.{Part}
use Rattle.net_transitions.specs.declared.transitions.Head.{Head}
use Rattle.net_file.specs.declared.file.Tables.{Tables}
use Rattle.net_file.specs.internal.NetTables.{NetHolds, NetHeld}

-- ---- part after part
-- what the reading of a file comes down to: what is left of its content, and the last command
abbrev pub Left : List ℕ → Answer Net → Type 0
Left s x = read_net s ≡ outcome (x and_then closed s 0x1F)

-- what follows each part
abbrev pub after_transitions : List ℕ → List ℕ → List ℕ → List Place → List Transition → ℕ → Answer Net
after_transitions s sets variables places transitions at =
    whole s (tokens_part s (net sets variables places transitions [])) [] at and_then λ tokens at. fine (net sets variables places transitions tokens) at

abbrev pub after_places : List ℕ → List ℕ → List ℕ → List Place → ℕ → Answer Net
after_places s sets variables places at = whole s (transition_part s (scope sets variables places)) [] at and_then after_transitions s sets variables places

abbrev pub after_variables : List ℕ → List ℕ → List ℕ → ℕ → Answer Net
after_variables s sets variables at = whole s (place_part s (scope sets variables [])) [] at and_then after_places s sets variables

abbrev pub after_sets : List ℕ → List ℕ → ℕ → Answer Net
after_sets s sets at = whole s (variable_part s (scope sets [] [])) [] at and_then after_variables s sets

-- ---- what the tables hold
space_same : (sets variables : List ℕ) (places : List Place) (ts : List Transition) (tokens : List Tokens)
    → binding_space (net sets variables places ts tokens) ts ≡ binding_space (scope sets variables places) ts
unfolding variables_of
space_same sets variables places ts tokens = refl

-- where places begin goes by the sets alone
pub started_over : {sets variables : List ℕ} {places : List Place} {ts : List Transition} {tokens : List Tokens} {starts : List ℕ} {count total : ℕ}
    → Started (scope sets [] []) places starts count total → Started (net sets variables places ts tokens) places starts count total
started_over h = record { few = h.few; small = h.small; are = h.are; all = h.all; begin = h.begin }

module _ (s : List ℕ) (x : Tables) {sets variables places total : ℕ} (few_sets : sets ≤ 16) (few_variables : variables ≤ 32)
    (sized : length x.kinds ≡ 32)
    (started : Started (scope (take sets x.sizes) [] []) (places_of (take places x.kinds)) x.starts places total) where
  place_by_lem : (p : ℕ) (d : PlaceSets) → p < places → place_in (get_or x.kinds p d) ≡ get_or (places_of (take places x.kinds)) p (single 0)
  unfolding places_of
  place_by_lem p d lt =
      let a = length-take-le places x.kinds (omega (arith, started.few)) in
      ap place_in (sym (get_or-take places x.kinds p d lt)) ∙ sym (get_or-map place_in (take places x.kinds) p d (single 0) (omega arith))

  -- the net that transitions are read over
  abbrev drawn_so : Net
  drawn_so = scope (take sets x.sizes) (take variables x.vars) (places_of (take places x.kinds))

  tables : (arcs initial : List ℕ) {at count space more end_at : ℕ} (t : TransitionsRead s drawn_so at x.heads arcs count space more)
      (k : TokensRead s (net drawn_so.sets drawn_so.variables drawn_so.places t.transitions []) more x.starts initial end_at)
      → NetHolds s (net drawn_so.sets drawn_so.variables drawn_so.places t.transitions k.tokens)
      x arcs initial (record { sets = sets; variables = variables; places = places; total = total; transitions = count; space = space })
  tables arcs initial t k = record {
    few_sets = few_sets;
    few_variables = few_variables;
    few_transitions = t.few;
    sets_are = refl;
    variables_are = refl;
    places_are = refl;
    place_is = place_by_lem;
    started = started_over started;
    transitions_are = t.are;
    wide = space_same drawn_so.sets drawn_so.variables drawn_so.places t.transitions k.tokens ∙ t.wide;
    bounded = t.bounded;
    holds = t.holds;
    counts = k.holds;
  }

-- ---- the file, part after part: each part's Result, and what it tells
-- a fault of a part is the file's
stops : {A : Type 0} (s : List ℕ) (f : A → ℕ → Answer Net) {x : Answer A} {k p : ℕ} → Left s (x and_then f) → fault k p ≡ x → read_net s ≡ refused k p
stops s f l e = rw (← e) at l

some_is : {A : Type 0} {a b : A} → some a ≡ some b → a ≡ b
some_is e = cc

-- a part that is whole hands its value and the next place on
goes : {A : Type 0} (s : List ℕ) (f : A → ℕ → Answer Net) {x : Answer A} {a : A} {at : ℕ} → Left s (x and_then f) → fine a at ≡ x → Left s (f a at)
goes s f l e = rw (← e) at l

pub net-long : (s : List ℕ) → 16384 < length s → read_net s ≡ refused 1 16384
unfolding read_net
net-long s lt = rw (lt-ltb 16384 (length s) lt)

net_by : (s : List ℕ) → length s ≤ 16384 → read_net s ≡ outcome (opened s 0x01 (content s) and_then closed s 0x1F)
unfolding read_net file
net_by s fits = rw (le-ltb 16384 (length s) fits)

module _ (s : List ℕ) (fits : length s ≤ 16384) (opening : Result ℕ Refusal) (told : opened s 0x01 (λ next. fine next next) ≡ going (λ next. fine next next) opening) where
  pub opening_refused : {f : Refusal} → opening ≡ Err f → read_net s ≡ refused (number_of f.reason) f.place
  opening_refused e = net_by s fits ∙ rw (goes_in s 0x01 opening told (content s), e)

  module _ (start : ℕ) (ok : opening ≡ Ok start) (sizes : List ℕ) (of_sets : Result Part Refusal) (sets_told : sets_read sizes of_sets ≡ whole s (set_part s) [] start) where
    left_sets : Left s (content s start)
    left_sets = net_by s fits ∙ rw (goes_in s 0x01 opening told (content s), ok)

    pub sets_refused : {f : Refusal} → of_sets ≡ Err f → read_net s ≡ refused (number_of f.reason) f.place
    sets_refused e = stops s (after_sets s) left_sets (rw e at sets_told)

    module _ (p : Part) (sets_ok : of_sets ≡ Ok p) (vars : List ℕ) (of_variables : Result Part Refusal)
        (variables_told : sets_read vars of_variables ≡ whole s (variable_part s (scope (take p.count sizes) [] [])) [] p.next) where
      abbrev sets : List ℕ
      sets = take p.count sizes

      left_variables : Left s (after_sets s sets p.next)
      left_variables = goes s (after_sets s) left_sets (rw sets_ok at sets_told)

      pub variables_refused : {f : Refusal} → of_variables ≡ Err f → read_net s ≡ refused (number_of f.reason) f.place
      variables_refused e = stops s (after_variables s sets) left_variables (rw e at variables_told)

      module _ (q : Part) (variables_ok : of_variables ≡ Ok q) (kinds : List PlaceSets) (starts : List ℕ) (of_places : Result Part Refusal)
          (places_told : (variables : List ℕ) → places_read kinds of_places ≡ whole s (place_part s (scope (take p.count sizes) variables [])) [] q.next) where
        abbrev variables : List ℕ
        variables = take q.count vars

        left_places : Left s (after_variables s sets variables q.next)
        left_places = goes s (after_variables s sets) left_variables (rw variables_ok at variables_told)

        pub places_refused : {f : Refusal} → of_places ≡ Err f → read_net s ≡ refused (number_of f.reason) f.place
        places_refused e = stops s (after_places s sets variables) left_places (rw e at places_told variables)

        module _ (r : Part) (places_ok : of_places ≡ Ok r) (heads : List Head) (arcs : List ℕ) (of_transitions : Result Part Refusal)
            (transitions_told : TransitionsTold s (scope (take p.count sizes) (take q.count vars) (places_of (take r.count kinds))) r.next heads arcs of_transitions) where
          abbrev places : List Place
          places = places_of (take r.count kinds)

          left_transitions : Left s (after_places s sets variables places r.next)
          left_transitions = goes s (after_places s sets variables) left_places (ap (places_read kinds) (sym places_ok) ∙ places_told variables)

          pub transitions_refused : {f : Refusal} → of_transitions ≡ Err f → read_net s ≡ refused (number_of f.reason) f.place
          transitions_refused {f} e =
              let h = rw e at transitions_told in
              rw h.reason at (stops s (after_transitions s sets variables places) left_transitions (sym (some_is h.is)))

          module _ (t : Part) (transitions_ok : of_transitions ≡ Ok t) (held : Started (scope (take p.count sizes) [] []) (places_of (take r.count kinds)) starts r.count r.total)
              (initial : List ℕ) (of_tokens : Result ℕ Refusal)
              (tokens_told : (n : Net) → Started n n.places starts r.count r.total → TokensTold s n t.next starts initial of_tokens) where
            transitions_are : TransitionsRead s (scope sets variables places) r.next heads arcs t.count t.total t.next
            transitions_are = rw transitions_ok at transitions_told

            abbrev before_tokens : Net
            before_tokens = net sets variables places transitions_are.transitions []

            left_tokens : Left s (after_transitions s sets variables places transitions_are.transitions t.next)
            left_tokens = goes s (after_transitions s sets variables places) left_transitions transitions_are.read

            pub tokens_refused : {f : Refusal} → of_tokens ≡ Err f → read_net s ≡ refused (number_of f.reason) f.place
            tokens_refused e = stops s (λ tokens at. fine (net sets variables places transitions_are.transitions tokens) at) left_tokens
                (rw e at tokens_told before_tokens (started_over held))

            module _ (next : ℕ) (tokens_ok : of_tokens ≡ Ok next) (closing : Result (Unit {0}) Refusal) (closing_told : closed s 0x1F (tt {0}) next ≡ answered (λ u. u) (λ u. next + 1) closing) where
              tokens_are : TokensRead s before_tokens t.next starts initial next
              tokens_are = rw tokens_ok at tokens_told before_tokens (started_over held)

              abbrev the_net : Net
              the_net = net sets variables places transitions_are.transitions tokens_are.tokens

              left_closing : Left s (fine the_net next)
              left_closing = goes s (λ tokens at. fine (net sets variables places transitions_are.transitions tokens) at) left_tokens tokens_are.read

              pub closing_refused : {f : Refusal} → closing ≡ Err f → read_net s ≡ refused (number_of f.reason) f.place
              closing_refused e = left_closing ∙ ap outcome (goes_out s 0x1F the_net next closing closing_told ∙ ap (answered (λ u. the_net) (λ u. next + 1)) e)

              pub net_held : closing ≡ Ok tt → p.count ≤ 16 → q.count ≤ 32 → length kinds ≡ 32
                  → NetHeld s (record { sizes = sizes; vars = vars; kinds = kinds; starts = starts; heads = heads }) arcs initial
                  (record { sets = p.count; variables = q.count; places = r.count; total = r.total; transitions = t.count; space = t.total })
              net_held e few_sets few_variables sized = record {
                value = the_net;
                read = left_closing ∙ ap outcome (goes_out s 0x1F the_net next closing closing_told ∙ ap (answered (λ u. the_net) (λ u. next + 1)) e);
                holds = tables s (record { sizes = sizes; vars = vars; kinds = kinds; starts = starts; heads = heads }) few_sets few_variables sized held arcs initial transitions_are tokens_are;
              }
