-- The trees that are read are formed: colours, guards and arc expressions. Assumes nothing.
use Rattle.std.specs.Prelude.{◌+◌, ◌&&◌, ◌∷◌}
use mathlib.Core.Path.{◌≡◌, refl}
use native.Mathlib.Omega.{arith}
use borrow.Author.Tests.{le-leb}
use Rattle.reading.specs.Basics.{ℕ, zero, suc, true, List, [], leb, eqb, word_at, Bytes}
use Rattle.reading.specs.Reading.{Answer, fault, ◌unless◌, needed}
use Rattle.reading.proofs.Commands.{both_hold}
use Rattle.reading.proofs.Lists.{end, also}
use Rattle.reading.proofs.Gives.{both_first, both_second, Gives, gives, stops, checked_gives, then_gives, under_gives, needed_gives}
use Rattle.net.specs.Net.{Colour, successor, predecessor, Guard, opposite, both, either, equal, less, Expression, one, two, plus, minus, times, Place, single, pair, Net, set_of, ceiling}
use Rattle.net.specs.Reader.{colour_commands, read_colour, comparison, guard_commands, read_guard, amount, capped, expression_commands, read_expression}
use Rattle.net_file.specs.Formed.{colour_formed, comparable, guard_formed, of_sets, expression_formed}
use Rattle.net.proofs.Shut.{commands}

pub word_fits : (s : List ℕ) (at : ℕ) → Bytes s → leb (word_at s at) 65535 ≡ true
word_fits s at bytes = le-leb (word_at s at) 65535 (omega (arith, bytes at, bytes (at + 1)))

module _ (s : List ℕ) (n : Net) where
  -- ---- colours
  abbrev Coloured : Colour → Type 0
  Coloured k = colour_formed n k ≡ true

  colour_here : (left : ℕ) (inner : ℕ → Answer Colour) → ((at : ℕ) → Gives Coloured (inner at)) → (at : ℕ) → Gives Coloured (needed s (colour_commands s n left inner at) at)
  unfolding commands colour_formed
  colour_here left inner h at = needed_gives s at
      (also (λ p next. gives p.0)
      (also (λ p next. gives p.0)
      (also (λ p next. under_gives successor (h next) (λ k q. q))
      (also (λ p next. under_gives predecessor (h next) (λ k q. q)) end))))

  -- a colour that is read is formed
  pub colour_formed_lem : (left at : ℕ) → Gives (λ k. colour_formed n k ≡ true) (read_colour s n left at)
  unfolding read_colour
  colour_formed_lem zero at = colour_here zero (fault 7) (λ at. stops) at
  colour_formed_lem (suc left) at = colour_here (suc left) (read_colour s n left) (colour_formed_lem left) at

  -- ---- guards
  abbrev Guarded : Guard → Type 0
  Guarded g = guard_formed n g ≡ true

  module _ (colour : ℕ → Answer Colour) (formed : (at : ℕ) → Gives Coloured (colour at)) where
    compared : (join : Colour → Colour → Guard) (at next : ℕ) → ((a b : Colour) → comparable n a b ≡ true → Guarded (join a b)) → Gives Guarded (comparison n colour join at next)
    compared join at next h =
        then_gives (formed next) (λ a more p. then_gives (formed more) (λ b last q.
        checked_gives at ((6 unless eqb (set_of n a) (set_of n b)) ∷ []) (join a b) last (λ c. h a b (both_hold _ _ (both_hold _ _ p q) c.0))))

    guard_here : (left : ℕ) (inner : ℕ → Answer Guard) → ((at : ℕ) → Gives Guarded (inner at)) → (at : ℕ) → Gives Guarded (needed s (guard_commands n left inner colour at) at)
    unfolding commands guard_formed
    guard_here left inner h at = needed_gives s at
        (also (λ p next. gives refl)
        (also (λ p next. under_gives opposite (h next) (λ g q. q))
        (also (λ p next. then_gives (h next) (λ x more q. under_gives (both x) (h more) (λ y r. both_hold _ _ q r)))
        (also (λ p next. then_gives (h next) (λ x more q. under_gives (either x) (h more) (λ y r. both_hold _ _ q r)))
        (also (λ p next. compared equal at next (λ x y q. q))
        (also (λ p next. compared less at next (λ x y q. q)) end))))))

  -- a guard that is read is formed
  pub guard_formed_lem : (left at : ℕ) → Gives (λ g. guard_formed n g ≡ true) (read_guard s n left at)
  unfolding read_guard
  guard_formed_lem zero at = guard_here (fault 7) (λ at. stops) zero (fault 7) (λ at. stops) at
  guard_formed_lem (suc left) at = guard_here (read_colour s n left) (colour_formed_lem left) (suc left) (read_guard s n left) (guard_formed_lem left) at

  -- ---- arc expressions
  -- one that is read: formed, and of bytes with a ceiling that is u16
  pub record Sound (place : Place) (e : Expression) : Type 0 where
    pub formed : expression_formed n place e ≡ true
    pub word : Bytes s → leb (ceiling e) 65535 ≡ true

  capped_gives : (place : Place) (at : ℕ) {answer : Answer Expression} → Gives (λ e. leb (ceiling e) 65535 ≡ true → expression_formed n place e ≡ true) answer
      → Gives (Sound place) (capped at answer)
  capped_gives place at g = then_gives g (λ e last h. checked_gives at ((8 unless leb (ceiling e) 65535) ∷ []) e last (λ c. record { formed = h c.0; word = λ bytes. c.0 }))

  module _ (colour : ℕ → Answer Colour) (formed : (at : ℕ) → Gives Coloured (colour at)) where
    amount_sound : (place : Place) (at next : ℕ) → Gives (Sound place) (amount n colour place (word_at s (at + 1)) at next)
    unfolding expression_formed of_sets ceiling
    amount_sound (single set) at next =
        then_gives (formed next) (λ k last p. checked_gives at ((6 unless eqb (set_of n k) set) ∷ []) (one (word_at s (at + 1)) k) last (λ c.
        record { formed = both_hold _ _ (both_hold _ _ p c.0) refl; word = word_fits s (at + 1) }))
    amount_sound (pair first second) at next =
        then_gives (formed next) (λ a more p. then_gives (formed more) (λ b last q.
        checked_gives at ((6 unless (eqb (set_of n a) first && eqb (set_of n b) second)) ∷ []) (two (word_at s (at + 1)) a b) last (λ c.
        let f = both_first (eqb (set_of n a) first) (eqb (set_of n b) second) c.0 in
        let g = both_second (eqb (set_of n a) first) (eqb (set_of n b) second) c.0 in
        record { formed = both_hold _ _ (both_hold _ _ p f) (both_hold _ _ (both_hold _ _ q g) refl); word = word_fits s (at + 1) })))

    module _ (place : Place) (left : ℕ) (inner : ℕ → Answer Expression) (h : (at : ℕ) → Gives (Sound place) (inner at)) where
      expression_here : (at : ℕ) → Gives (Sound place) (needed s (expression_commands s n place left inner colour at) at)
      unfolding commands expression_formed ceiling
      expression_here at = needed_gives s at
          (also (λ p next. amount_sound place at next)
          (also (λ p next. gives (record { formed = refl; word = word_fits s (at + 1) }))
          (also (λ p next. capped_gives place at (then_gives (h next) (λ x more q. under_gives (plus x) (h more) (λ y r c. both_hold _ _ (both_hold _ _ q.formed r.formed) c))))
          (also (λ p next. capped_gives place at (then_gives (h next) (λ x more q. under_gives (minus x) (h more) (λ y r c. both_hold _ _ (both_hold _ _ q.formed r.formed) c))))
          (also (λ p next. capped_gives place at (under_gives (times (word_at s (at + 1))) (h next) (λ e q c. both_hold _ _ q.formed c))) end)))))

  pub expression_sound : (place : Place) (left at : ℕ) → Gives (Sound place) (read_expression s n place left at)
  unfolding read_expression
  expression_sound place zero at = expression_here (fault 7) (λ at. stops) place zero (fault 7) (λ at. stops) at
  expression_sound place (suc left) at = expression_here (read_colour s n left) (colour_formed_lem left) place (suc left) (read_expression s n place left) (expression_sound place left) at
