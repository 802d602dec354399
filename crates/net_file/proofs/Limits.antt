-- An accepted net keeps to its limits. Assumes nothing.
use Rattle.std.specs.Prelude.{◌+◌, ◌-◌, ◌&&◌, ◌∷◌, if◌then◌else◌}
use mathlib.Core.Path.{◌≡◌, refl}
use Prim.Native.Nat.{◌≤◌, ◌<◌}
use native.Mathlib.Omega.{arith}
use borrow.Author.Tests.{leb-true, ltb-true, ltb-false}
use lib.ListN.{length-append}
use Rattle.reading.specs.Basics.{ℕ, Bool, true, false, List, [], some, map, length, ltb, leb, eqb, with, every, sum, byte_at}
use Rattle.reading.specs.Reading.{fine, fault, accepted, refused, outcome, ◌unless◌, checked, whole, file}
use Rattle.reading.proofs.Lists.{All, end, also, all_with, all_get_d}
use Rattle.reading.proofs.Keeps.{no_value, both_true, checked_went, then_went, standing_went, repeat_keeps, file_went, outcome_went}
use Rattle.net.specs.Net.{Place, single, pair, Transition, Tokens, Net, net, sets_of, colours_of, variables_of, binding_space, no_transition, scope}
use Rattle.net.specs.Reader.{read_guard_if}
use Rattle.net_parts.specs.Parts.{set_part, variable_part, place_part, tokens_part}
use Rattle.net_transitions.specs.Transitions.{arc_part, transition_part}
use Rattle.net_file.specs.NetFile.{content, read_net}
use Rattle.net_file.specs.Limits.{Limits}

-- one more is one longer
one_more : {A : Type 0} (l : List A) (a : A) → length (with l a) ≡ length l + 1
one_more l a = length-append l (a ∷ [])

-- ---- what each part keeps
abbrev SetsKeep : List ℕ → Type 0
SetsKeep sets = (length sets ≤ 16) × All (λ size. (1 ≤ size) × (size ≤ 64)) sets

set_keeps : (s sets more : List ℕ) (at next : ℕ) → SetsKeep sets → set_part s sets at ≡ some (fine more next) → SetsKeep more
unfolding set_part
set_keeps s sets more at next k e = standing_went s at (also (λ holds from q.
    let size = byte_at s (at + 1) in
    let (low, high) = both_true (leb 1 size) (leb size 64) holds.0 in
    let is : with sets size ≡ more = cc in
    rw (← is) (omega (arith, one_more sets size, ltb-true (length sets) 16 holds.1.0), all_with k.1 (leb-true 1 size low, leb-true size 64 high))) end) e

abbrev VariablesKeep : List ℕ → List ℕ → Type 0
VariablesKeep sets variables = (length variables ≤ 32) × All (λ set. set < length sets) variables

variable_keeps : (s : List ℕ) (n : Net) (variables more : List ℕ) (at next : ℕ) → VariablesKeep n.sets variables → variable_part s n variables at ≡ some (fine more next)
    → VariablesKeep n.sets more
unfolding variable_part
variable_keeps s n variables more at next k e = standing_went s at (also (λ holds from q.
    let set = byte_at s (at + 1) in
    let is : with variables set ≡ more = cc in
    rw (← is) (omega (arith, one_more variables set, ltb-true (length variables) 32 holds.1.0), all_with k.1 (ltb-true set (length n.sets) holds.0))) end) e

abbrev PlacesKeep : Net → List Place → Type 0
PlacesKeep n places =
    (length places ≤ 32) × All (λ p. every (λ set. ltb set (length n.sets)) (sets_of p) ≡ true) places × (sum (map (colours_of n) places) ≤ 4096)

place_keeps : (s : List ℕ) (n : Net) (places more : List Place) (at next : ℕ) → PlacesKeep n places → place_part s n places at ≡ some (fine more next) → PlacesKeep n more
unfolding place_part
place_keeps s n places more at next k e = standing_went s at (also (kept (single (byte_at s (at + 1)))) (also (kept (pair (byte_at s (at + 1)) (byte_at s (at + 2)))) end)) e
  where
    kept : (p : Place)
        → (every (λ set. ltb set (length n.sets)) (sets_of p) ≡ true) × (((ltb (length places) 32 && leb (sum (map (colours_of n) (with places p))) 4096) ≡ true) × Unit {0})
        → (from : ℕ) → fine (with places p) from ≡ fine more next → PlacesKeep n more
    kept p holds from q =
        let (fewer, fit) = both_true (ltb (length places) 32) (leb (sum (map (colours_of n) (with places p))) 4096) holds.1.0 in
        let is : with places p ≡ more = cc in
        rw (← is) (omega (arith, one_more places p, ltb-true (length places) 32 fewer), all_with k.1 holds.0, leb-true (sum (map (colours_of n) (with places p))) 4096 fit)

abbrev TransitionsKeep : Net → List Transition → Type 0
TransitionsKeep n transitions = (length transitions ≤ 32) × All (λ t. length (variables_of n t) ≤ 4) transitions × (binding_space n transitions ≤ 65536)

transition_keeps : (s : List ℕ) (n : Net) (transitions more : List Transition) (at next : ℕ) → TransitionsKeep n transitions
    → transition_part s n transitions at ≡ some (fine more next) → TransitionsKeep n more
unfolding transition_part
transition_keeps s n transitions more at next k e = standing_went s at (also (λ holds from q.
    then_went (read_guard_if s n from) _ q λ guard arcs-at f g.
    then_went (whole s (arc_part s n) [] arcs-at) _ g λ arcs last h i.
    finished (record { guard = guard; arcs = arcs }) last holds.0 (eqb (byte_at s last) 0x15) i) end) e
  where
    finished : (t : Transition) (last : ℕ) → ltb (length transitions) 32 ≡ true → (stray : Bool)
        → (if stray then fault 3 last
        else checked at ((10 unless leb (length (variables_of n t)) 4) ∷ (11 unless leb (binding_space n (with transitions t)) 65536) ∷ []) (with transitions t) last) ≡ fine more next
        → TransitionsKeep n more
    finished t last room true q = no_value q
    finished t last room false q =
        let (holds, is) = checked_went at ((10 unless leb (length (variables_of n t)) 4) ∷ (11 unless leb (binding_space n (with transitions t)) 65536) ∷ []) (with transitions t) last q in
        rw (← is) (
          omega (arith, one_more transitions t, ltb-true (length transitions) 32 room),
          all_with k.1 (leb-true (length (variables_of n t)) 4 holds.0),
          leb-true (binding_space n (with transitions t)) 65536 holds.1.0,
        )

-- ---- the whole net
-- the parts together
kept : (sets variables : List ℕ) (places : List Place) (transitions : List Transition) (tokens : List Tokens)
    → SetsKeep sets → VariablesKeep sets variables → PlacesKeep (scope sets variables []) places → TransitionsKeep (scope sets variables places) transitions
    → Limits (net sets variables places transitions tokens)
unfolding variables_of
kept sets variables places transitions tokens a b c d =
    record {
      sets = a.0;
      sizes = λ i lt. all_get_d i 0 a.1 lt;
      variables = b.0;
      variable_sets = λ v lt. all_get_d v 0 b.1 lt;
      places = c.0;
      place_sets = λ p lt. all_get_d p (single 0) c.1 lt;
      flat_places_lem = c.2;
      transitions = d.0;
      few_variables = λ t lt. all_get_d t no_transition d.1 lt;
      space = d.2;
    }

-- what the parts in their order give
content_keeps : (s : List ℕ) (start : ℕ) {n : Net} {last : ℕ} → content s start ≡ fine n last → Limits n
content_keeps s start {n} {last} e =
    then_went (whole s (set_part s) [] start) _ e λ sets at₁ f e.
    then_went (whole s (variable_part s (scope sets [] [])) [] at₁) _ e λ variables at₂ g e.
    then_went (whole s (place_part s (scope sets variables [])) [] at₂) _ e λ places at₃ h e.
    then_went (whole s (transition_part s (scope sets variables places)) [] at₃) _ e λ transitions at₄ i e.
    then_went (whole s (tokens_part s (net sets variables places transitions [])) [] at₄) _ e λ tokens at₅ j e.
    let is : net sets variables places transitions tokens ≡ n = cc in
    rw (← is) (kept sets variables places transitions tokens
    (repeat_keeps (set_part s) SetsKeep (set_keeps s) (length s - start) start (omega arith, end) f)
    (repeat_keeps (variable_part s (scope sets [] [])) (VariablesKeep sets) (variable_keeps s (scope sets [] [])) (length s - at₁) at₁ (omega arith, end) g)
    (repeat_keeps (place_part s (scope sets variables [])) (PlacesKeep (scope sets variables [])) (place_keeps s (scope sets variables [])) (length s - at₂) at₂ (omega arith, end, omega arith) h)
    (repeat_keeps (transition_part s (scope sets variables places)) (TransitionsKeep (scope sets variables places)) (transition_keeps s (scope sets variables places)) (length s - at₃) at₃
    (omega arith, end, omega arith) i))

-- a file that is accepted has 16,384 bytes at most
pub short : (s : List ℕ) (n : Net) → read_net s ≡ accepted n → length s ≤ 16384
unfolding read_net
short s n e = go (ltb 16384 (length s)) refl e
  where
    go : (t : Bool) → ltb 16384 (length s) ≡ t → (if t then refused 1 16384 else outcome (file 0x01 (1 ∷ []) (content s) 0x1F s)) ≡ accepted n → length s ≤ 16384
    go true i q = let z : ◌≡◌ {A = ℕ} 0 1 = cc in absurd (omega arith)
    go false i q = ltb-false 16384 (length s) i

-- an accepted net
pub limits : (s : List ℕ) (n : Net) → read_net s ≡ accepted n → Limits n
unfolding read_net
limits s n e = go (ltb 16384 (length s)) e
  where
    go : (t : Bool) → (if t then refused 1 16384 else outcome (file 0x01 (1 ∷ []) (content s) 0x1F s)) ≡ accepted n → Limits n
    go true q = let z : ◌≡◌ {A = ℕ} 0 1 = cc in absurd (omega arith)
    go false q = outcome_went (file 0x01 (1 ∷ []) (content s) 0x1F s) q λ last f. file_went 0x01 (1 ∷ []) (content s) 0x1F s f λ start next g. content_keeps s start g
