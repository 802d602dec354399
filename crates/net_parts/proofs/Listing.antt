-- A part of one command with a byte of its operand each: its steps. Assumes nothing.
use Rattle.std.specs.Prelude.{◌+◌, ◌&&◌, ◌∷◌}
use mathlib.Core.Path.{◌≡◌, refl, fun_ext}
use Prim.Native.Nat.{◌≤◌, ◌<◌}
use native.Mathlib.Omega.{arith}
use borrow.Author.Tests.{lt-ltb, le-ltb, le-leb, lt-leb, leb-true, leb-false, eq-eqb, ne_eqb}
use Rattle.reading.specs.Basics.{ℕ, Bool, List, [], some, none, length, true, false, leb, ltb, with, find, byte_at}
use Rattle.reading.specs.Reading.{fine, fault, ◌unless◌, Command, command}
use Rattle.reading.proofs.Commands.{end, other, known, passes, done, fails, later, both_hold, first_fails, second_fails, standing_none, stands_cut, stands_fails, stands_goes}
use Rattle.net.specs.Net.{scope}
use Rattle.net.proofs.Shut.{commands}
use Rattle.net_parts.specs.Parts.{set_part, variable_part}
use Rattle.net_parts.specs.internal.Steps.{list_part}

known_alone : {A : Type 0} (c : Command A) → known (c ∷ []) c.byte ≡ some c
unfolding find
known_alone c = rw (eq-eqb c.byte c.byte refl)

module _ (s : List ℕ) (byte low end_of limit : ℕ) (l : List ℕ) (at : ℕ) where
  pub list_other : (byte_at s at ≡ byte → ⊥) → list_part byte low end_of limit s l at ≡ none
  list_other ne = standing_none _ _ _ (other (ne_eqb (byte_at s at) byte ne) end)

  abbrev the_command : Command (List ℕ)
  the_command = command byte 1
      ((5 unless (leb low (byte_at s (at + 1)) && ltb (byte_at s (at + 1)) end_of)) ∷ (4 unless ltb (length l) limit) ∷ []) (fine (with l (byte_at s (at + 1))))

  module _ (stands : byte_at s at ≡ byte) where
    pub list_cut : length s < at + 2 → list_part byte low end_of limit s l at ≡ some (fault 2 (length s))
    list_cut lt = stands_cut s at byte _ stands (known_alone the_command) lt

    module _ (whole-there : at + 2 ≤ length s) where
      pub list_low : byte_at s (at + 1) < low → list_part byte low end_of limit s l at ≡ some (fault 5 at)
      list_low lt = stands_fails s at byte _ stands (known_alone the_command) whole-there (fails (first_fails _ _ (lt-leb low (byte_at s (at + 1)) lt)))

      pub list_high : end_of ≤ byte_at s (at + 1) → list_part byte low end_of limit s l at ≡ some (fault 5 at)
      list_high le = stands_fails s at byte _ stands (known_alone the_command) whole-there
          (fails (second_fails (leb low (byte_at s (at + 1))) _ (le-ltb (byte_at s (at + 1)) end_of le)))

      module _ (least : low ≤ byte_at s (at + 1)) (most : byte_at s (at + 1) < end_of) where
        within : leb low (byte_at s (at + 1)) && ltb (byte_at s (at + 1)) end_of ≡ true
        within = both_hold _ _ (le-leb low (byte_at s (at + 1)) least) (lt-ltb (byte_at s (at + 1)) end_of most)

        pub list_full : limit ≤ length l → list_part byte low end_of limit s l at ≡ some (fault 4 at)
        list_full le = stands_fails s at byte _ stands (known_alone the_command) whole-there (later within (fails (le-ltb (length l) limit le)))

        pub list_goes : length l < limit → list_part byte low end_of limit s l at ≡ some (fine (with l (byte_at s (at + 1))) (at + 2))
        list_goes lt = stands_goes s at byte _ stands (known_alone the_command) whole-there (passes within (passes (lt-ltb (length l) limit lt) done))

-- the set part and the variable part are such
below_65 : (v : ℕ) → ltb v 65 ≡ leb v 64
below_65 v = go (leb v 64) refl
  where
    go : (b : Bool) → leb v 64 ≡ b → ltb v 65 ≡ leb v 64
    go true e = rw e (lt-ltb v 65 (let h = leb-true v 64 e in omega arith))
    go false e = rw e (le-ltb v 65 (let h = leb-false v 64 e in omega arith))

pub sets_listed : (s : List ℕ) → list_part 0x10 1 65 16 s ≡ set_part s
unfolding set_part commands
sets_listed s = fun_ext (λ l. fun_ext (λ at. rw (below_65 (byte_at s (at + 1)))))

pub variables_listed : (s sets : List ℕ) → list_part 0x11 0 (length sets) 32 s ≡ variable_part s (scope sets [] [])
unfolding variable_part commands
variables_listed s sets = fun_ext (λ l. fun_ext (λ at. rw (le-leb 0 (byte_at s (at + 1)) (omega arith))))
