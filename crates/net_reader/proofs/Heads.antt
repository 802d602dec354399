-- What stands at a place of a net file, by the width that its byte has. Assumes nothing.
use Rattle.std.specs.Prelude.{◌+◌, ◌∷◌, Result, Ok, Err}
use Rattle.std.specs.Prelude as std
use mathlib.Core.Path.{◌≡◌, refl, sym}
use Prim.Native.Nat.{◌≤◌, ◌<◌}
use native.Mathlib.Omega.{arith}
use borrow.Author.Tests.{eq-eqb}
use Rattle.reading.specs.Basics.{ℕ, List, [], Option, some, none, length, given, find, byte_at}
use Rattle.reading.specs.Reading.{fine, fault, command}
use Rattle.reading.proofs.Commands.{done, end, known, past, needed_past, needed_stray, needs_cut, needs_goes}
use Rattle.net.specs.Reader.{width_of}
use Rattle.net.specs.internal.ReaderEnums.{width_told}
use Rattle.net_reader.specs.Heads.{head_at}
use Rattle.net.proofs.Shut.{commands}

unknown : (o : Option ℕ) → given o std.None (λ width. std.Some width) ≡ std.None → o ≡ none
unknown none e = refl
unknown (some n) e = let z : ◌≡◌ {A = ℕ} 0 1 = cc in absurd (omega arith)

of_width : (o : Option ℕ) {width : ℕ} → given o std.None (λ width. std.Some width) ≡ std.Some width → o ≡ some width
of_width none e = let z : ◌≡◌ {A = ℕ} 0 1 = cc in absurd (omega arith)
of_width (some n) e = cc

itself : (b width : ℕ) → known (command b width [] (fine b) ∷ []) b ≡ some (command b width [] (fine b))
unfolding find
itself b width = rw (eq-eqb b b refl)

module _ (s : List ℕ) (at : ℕ) where
  pub head_past : length s ≤ at → fault 2 (length s) ≡ head_at s at
  unfolding head_at commands
  head_past le = sym (rw (past s at le) (needed_past s at [] refl le))

  pub head_stray : at < length s → width_told (byte_at s at) ≡ std.None → fault 3 at ≡ head_at s at
  unfolding head_at
  head_stray lt e = sym (rw (unknown (width_of (byte_at s at)) e) (needed_stray s at [] lt end))

  pub head_cut : {width : ℕ} → width_told (byte_at s at) ≡ std.Some width → length s < at + (1 + width) → fault 2 (length s) ≡ head_at s at
  unfolding head_at
  head_cut {width} e lt = sym (rw (of_width (width_of (byte_at s at)) e) (needs_cut s at (byte_at s at) _ refl (itself (byte_at s at) width) lt))

  pub head_whole : {width : ℕ} → width_told (byte_at s at) ≡ std.Some width → at + (1 + width) ≤ length s → fine (byte_at s at) (at + (1 + width)) ≡ head_at s at
  unfolding head_at
  head_whole {width} e le = sym (rw (of_width (width_of (byte_at s at)) e) (needs_goes s at (byte_at s at) _ refl (itself (byte_at s at) width) le done))
