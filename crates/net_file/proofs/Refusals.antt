-- Every refusal of a net file has a number from 1 to 15, at a place of at most 16,384. Assumes nothing.
use Rattle.std.specs.Prelude.{◌+◌, ◌&&◌, ◌∷◌, if◌then◌else◌}
use mathlib.Core.Path.{◌≡◌, refl, sym, ap, ◌∙◌}
use Prim.Native.Nat.{◌≤◌}
use native.Mathlib.Omega.{arith}
use borrow.Author.Tests.{ltb-false}
use Rattle.reading.specs.Basics.{ℕ, zero, suc, Bool, true, false, List, [], length, ltb, leb, eqb, with, byte_at, word_at}
use Rattle.reading.specs.Reading.{Answer, fault, outcome, refused, ◌unless◌, needed, file}
use Rattle.reading.specs.Refusals.{number_of}
use Rattle.reading.specs.internal.Reasons.{reason_of}
use Rattle.reading.specs.declared.refusal.Refusal.{Refusal}
use Rattle.reading.proofs.Lists.{end, also}
use Rattle.reading.proofs.Within.{by_test}
use Rattle.reading.proofs.Faults.{Fits, goes, tells, From, Steps, checks_fit, given-fits, repeat-fits, of_refusal, then_fits, under-fits, standing-fits, needed-fits, file-fits, numbered}
use Rattle.net.specs.Net.{Colour, successor, predecessor, Guard, opposite, both, either, equal, less, Expression, plus, minus, times, Place, single, pair, Transition, Net, net, place_at, set_of, ceiling, variables_of, binding_space, scope}
use Rattle.net.specs.Reader.{two_of, colour_commands, read_colour, comparison, guard_commands, read_guard, amount, capped, expression_commands, read_expression, read_guard_if}
use Rattle.net.proofs.Shut.{commands}
use Rattle.net_parts.specs.Parts.{set_part, variable_part, place_part, tokens_part}
use Rattle.net_transitions.specs.Transitions.{arc_command, arc_part, ended, transition_part}
use Rattle.net_file.specs.NetFile.{content, read_net}
use Rattle.net_file.specs.Limits.{RefusalsFit}

-- what stands for the reading inside the deepest level: too deep (7)
deep_fits : {A : Type 0} {len : ℕ} → From {A = A} len (fault 7)
deep_fits at le = tells {number = 7} (omega arith) (omega arith) le

-- two expressions one after the other
two_fits : {A B : Type 0} {len : ℕ} {inner : ℕ → Answer A} (join : A → A → B) → From len inner → From len (two_of inner join)
two_fits join h at le = then_fits (h at le) (λ a next more. under-fits (join a) (h next more))

-- ---- expressions
module _ (s : List ℕ) (n : Net) where
  colour_here : (left : ℕ) {inner : ℕ → Answer Colour} → From (length s) inner → (at : ℕ) → at ≤ length s → Fits (length s) (needed s (colour_commands s n left inner at) at)
  unfolding commands
  colour_here left h at le = needed-fits s at le refl
      (also (λ next more. goes more)
      (also (λ next more. goes more)
      (also (λ next more. under-fits successor (h next more))
      (also (λ next more. under-fits predecessor (h next more)) end))))

  colour-fits : (left : ℕ) → From (length s) (read_colour s n left)
  unfolding read_colour
  colour-fits zero at le = colour_here zero deep_fits at le
  colour-fits (suc left) at le = colour_here (suc left) (colour-fits left) at le

  -- what is read with colours one level down: comparisons and amounts, each with its check at the end (6)
  module _ {colour : ℕ → Answer Colour} (h : From (length s) colour) (at : ℕ) (le : at ≤ length s) where
    compared : (compare : Colour → Colour → Guard) → From (length s) (comparison n colour compare at)
    compared compare next more =
        then_fits (h next more) (λ a middle here. then_fits (h middle here) (λ b last there. checks_fit ((6 unless eqb (set_of n a) (set_of n b)) ∷ []) refl le (goes there)))

    amount-fits : (place : Place) (count : ℕ) → From (length s) (amount n colour place count at)
    amount-fits (single set) count next more = then_fits (h next more) (λ k last there. checks_fit ((6 unless eqb (set_of n k) set) ∷ []) refl le (goes there))
    amount-fits (pair first second) count next more =
        then_fits (h next more) (λ a middle here. then_fits (h middle here) (λ b last there.
        checks_fit ((6 unless (eqb (set_of n a) first && eqb (set_of n b) second)) ∷ []) refl le (goes there)))

    guard_here : (left : ℕ) {inner : ℕ → Answer Guard} → From (length s) inner → Fits (length s) (needed s (guard_commands n left inner colour at) at)
    unfolding commands
    guard_here left i = needed-fits s at le refl
        (also (λ next more. goes more)
        (also (λ next more. under-fits opposite (i next more))
        (also (two_fits both i)
        (also (two_fits either i)
        (also (compared equal)
        (also (compared less) end))))))

    -- ceilings (8)
    capped_fits : {answer : Answer Expression} → Fits (length s) answer → Fits (length s) (capped at answer)
    capped_fits f = then_fits f (λ e last there. checks_fit ((8 unless leb (ceiling e) 65535) ∷ []) refl le (goes there))

    expression_here : (place : Place) (left : ℕ) {inner : ℕ → Answer Expression} → From (length s) inner
        → Fits (length s) (needed s (expression_commands s n place left inner colour at) at)
    unfolding commands
    expression_here place left i = needed-fits s at le refl
        (also (amount-fits place (word_at s (at + 1)))
        (also (λ next more. goes more)
        (also (λ next more. capped_fits (two_fits plus i next more))
        (also (λ next more. capped_fits (two_fits minus i next more))
        (also (λ next more. capped_fits (under-fits (times (word_at s (at + 1))) (i next more))) end)))))

  guard_fits : (left : ℕ) → From (length s) (read_guard s n left)
  unfolding read_guard
  guard_fits zero at le = guard_here deep_fits at le zero deep_fits
  guard_fits (suc left) at le = guard_here (colour-fits left) at le (suc left) (guard_fits left)

  expression_fits : (place : Place) (left : ℕ) → From (length s) (read_expression s n place left)
  unfolding read_expression
  expression_fits place zero at le = expression_here deep_fits at le place zero deep_fits
  expression_fits place (suc left) at le = expression_here (colour-fits left) at le place (suc left) (expression_fits place left)

  guard_if_fits : From (length s) (read_guard_if s n)
  unfolding read_guard_if
  guard_if_fits at le = given-fits (standing-fits s at le refl (also (guard_fits 16) end)) (goes le)

-- ---- parts
set-fits : (s : List ℕ) → Steps (length s) (set_part s)
unfolding set_part
set-fits s sets at le = standing-fits s at le refl (also (λ next more. goes more) end)

module _ (s : List ℕ) (n : Net) where
  variable_fits : Steps (length s) (variable_part s n)
  unfolding variable_part
  variable_fits variables at le = standing-fits s at le refl (also (λ next more. goes more) end)

  place_fits : Steps (length s) (place_part s n)
  unfolding place_part
  place_fits places at le = standing-fits s at le refl (also (λ next more. goes more) (also (λ next more. goes more) end))

  arc-fits : Steps (length s) (arc_part s n)
  unfolding arc_part
  arc-fits arcs at le = standing-fits s at le refl (also (of_kind 0x16) (also (of_kind 0x17) (also (of_kind 0x18) end)))
    where
      of_kind : (kind : ℕ) → From (length s) (arc_command s n arcs at kind).goes
      of_kind kind next more = under-fits _ (expression_fits s n (place_at n (byte_at s (at + 1))) 16 next more)

  -- 10 and 11 are told at the transition's own place
  ended-fits : (transitions : List Transition) (at : ℕ) → at ≤ length s → (t : Transition) → From (length s) (ended s n transitions at t)
  ended-fits transitions at le t last there = by_test (Fits (length s)) (eqb (byte_at s last) 0x15) (λ e. tells {number = 3} (omega arith) (omega arith) there)
      (λ e. checks_fit ((10 unless leb (length (variables_of n t)) 4) ∷ (11 unless leb (binding_space n (with transitions t)) 65536) ∷ []) refl le (goes there))

  transition_fits : Steps (length s) (transition_part s n)
  unfolding transition_part
  transition_fits transitions at le = standing-fits s at le refl (also (λ next more.
      then_fits (guard_if_fits s n next more) (λ guard arcs-at here.
      then_fits (repeat-fits (arc_part s n) arc-fits _ [] arcs-at here) (λ arcs.
      ended-fits transitions at le (record { guard = guard; arcs = arcs })))) end)

  tokens_fit : Steps (length s) (tokens_part s n)
  unfolding tokens_part
  tokens_fit tokens at le = standing-fits s at le refl (also (λ next more. goes more) end)

-- ---- the whole file
content-fits : (s : List ℕ) → From (length s) (content s)
content-fits s at le =
    then_fits (repeat-fits _ (set-fits s) _ [] at le) (λ sets at le.
    then_fits (repeat-fits _ (variable_fits s (scope sets [] [])) _ [] at le) (λ variables at le.
    then_fits (repeat-fits _ (place_fits s (scope sets variables [])) _ [] at le) (λ places at le.
    then_fits (repeat-fits _ (transition_fits s (scope sets variables places)) _ [] at le) (λ transitions at le.
    then_fits (repeat-fits _ (tokens_fit s (net sets variables places transitions [])) _ [] at le) (λ tokens at le. goes le)))))

-- a file that is not overlong has 16,384 bytes at most
pub refusal-fits : (s : List ℕ) {number place : ℕ} → read_net s ≡ refused number place → (1 ≤ number) × (number ≤ 15) × (place ≤ 16384)
unfolding read_net
refusal-fits s {number} {place} e = go (ltb 16384 (length s)) refl e
  where
    go : (long : Bool) → ltb 16384 (length s) ≡ long → (if long then refused 1 16384 else outcome (file 0x01 (1 ∷ []) (content s) 0x1F s)) ≡ refused number place
        → (1 ≤ number) × (number ≤ 15) × (place ≤ 16384)
    go true t q = let a : 1 ≡ number = cc in let b : 16384 ≡ place = cc in (omega arith, omega arith, omega arith)
    go false t q =
        let h = of_refusal (file-fits 0x01 (1 ∷ []) (content s) 0x1F s (content-fits s)) q in
        (h.0, h.1, omega (arith, h.2, ltb-false 16384 (length s) t))

pub refusals_fit : RefusalsFit
refusals_fit s number place e = let h = refusal-fits s e in (h.1, h.2)

-- a refusal by its reason
pub by_reason : (s : List ℕ) {number : ℕ} (r : Refusal) → read_net s ≡ refused number r.place → reason_of number ≡ r.reason → read_net s ≡ refused (number_of r.reason) r.place
by_reason s {number} r e q = let h = refusal-fits s e in e ∙ ap (λ k. refused k r.place) (sym (numbered number h.0 h.1) ∙ ap number_of q)
