-- How a transition ends: its variables counted, and the binding space with it. Assumes nothing.
use Rattle.std.specs.Prelude.{◌+◌}
use mathlib.Core.Path.{◌≡◌, ◌∙◌}
use Prim.Native.Nat.{◌≤◌, ◌<◌}
use borrow.Author.Tests.{ne_eqb, le-leb, lt-leb}
use Rattle.reading.specs.Basics.{ℕ, true, false, List, map, length, get_or, with, keep, below, product, byte_at, leb}
use Rattle.reading.specs.Reading.{fine, fault}
use Rattle.reading.proofs.Commands.{passes, done, fails, later}
use Rattle.net.specs.Net.{Place, Transition, size_of, variables_of, sizes_of, binding_space, in_transition, scope}
use Rattle.net_transitions.specs.Transitions.{ended}
use Rattle.net.proofs.Answers.{checked_goes, checked_stops}
use Rattle.net_parts.proofs.Totals.{sum-with}

module _ (sizes vars : List ℕ) (places : List Place) (t : Transition) where
  -- what is counted and multiplied over the variables that stand in a transition is counted and multiplied over its variables
  pub counted : {count : ℕ} → count ≡ length (keep (λ v. in_transition v t) (below (length vars))) → count ≡ length (variables_of (scope sizes vars places) t)
  unfolding variables_of
  counted e = e

  pub multiplied : {count : ℕ} → count ≡ product (map (λ v. size_of (scope sizes vars places) (get_or vars v 0)) (keep (λ v. in_transition v t) (below (length vars))))
      → count ≡ product (sizes_of (scope sizes vars places) t)
  unfolding variables_of
  multiplied e = e

  pub few_kept : length (variables_of (scope sizes vars places) t) ≤ 4 → length (keep (λ v. in_transition v t) (below (length vars))) ≤ 4
  unfolding variables_of
  few_kept le = le

  module _ (transitions : List Transition) {space : ℕ} (so_far : binding_space (scope sizes vars places) transitions ≡ space) where
    pub space_is : {more : ℕ} → more ≡ product (sizes_of (scope sizes vars places) t) → binding_space (scope sizes vars places) (with transitions t) ≡ space + more
    space_is e = sum-with (λ t. product (sizes_of (scope sizes vars places) t)) transitions t ∙ rw (so_far, e)

    module _ (s : List ℕ) (at end : ℕ) where
      module _ (no-guard : byte_at s end ≡ 0x15 → ⊥) where
        pub closes_many : 4 < length (variables_of (scope sizes vars places) t) → ended s (scope sizes vars places) transitions at t end ≡ fault 10 at
        closes_many lt =
            rw (ne_eqb (byte_at s end) 0x15 no-guard) (checked_stops at (with transitions t) end (fails (lt-leb (length (variables_of (scope sizes vars places) t)) 4 lt)))

        module _ (at_most : length (variables_of (scope sizes vars places) t) ≤ 4) {more : ℕ} (is : more ≡ product (sizes_of (scope sizes vars places) t)) where
          four : leb (length (variables_of (scope sizes vars places) t)) 4 ≡ true
          four = le-leb (length (variables_of (scope sizes vars places) t)) 4 at_most

          pub closes_wide : 65536 < space + more → ended s (scope sizes vars places) transitions at t end ≡ fault 11 at
          closes_wide lt =
              let f : leb (binding_space (scope sizes vars places) (with transitions t)) 65536 ≡ false = rw (space_is is) (lt-leb (space + more) 65536 lt) in
              rw (ne_eqb (byte_at s end) 0x15 no-guard) (checked_stops at (with transitions t) end (later four (fails f)))

          pub closes : space + more ≤ 65536 → ended s (scope sizes vars places) transitions at t end ≡ fine (with transitions t) end
          closes le =
              let f : leb (binding_space (scope sizes vars places) (with transitions t)) 65536 ≡ true = rw (space_is is) (le-leb (space + more) 65536 le) in
              rw (ne_eqb (byte_at s end) 0x15 no-guard) (checked_goes at (with transitions t) end (passes four (passes f done)))
