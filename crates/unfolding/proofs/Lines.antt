-- The line of a refusal spells its number and its place. Assumes nothing.
use Rattle.std.specs.Prelude.{◌+◌, ◌*◌, ◌-◌, ◌/◌, ◌%◌, ◌∷◌, ◌++◌, if◌then◌else◌}
use mathlib.Core.Path.{◌≡◌, refl, sym, ◌∙◌}
use Prim.Native.Nat.{◌≤◌, ◌<◌, ◌^◌}
use native.Mathlib.Omega.{arith}
use native.Mathlib.Nat.{pow-suc}
use borrow.Author.Tests.{ltb-true, ltb-false, le-leb}
use lib.ListN.{length-append, get_or-append}
use Rattle.reading.specs.Basics.{ℕ, zero, suc, Bool, true, false, List, [], length, ltb, leb, every, byte_at}
use Rattle.reading.specs.Reading.{Outcome, accepted, refused, ◌when_not◌, refusing, permitted}
use Rattle.reading.proofs.Commands.{both_hold}
use Rattle.reading.proofs.Lists.{all_with, every_in, in_every}
use Rattle.net.specs.Net.{Net}
use Rattle.net_file.specs.NetFile.{read_net}
use Rattle.net_file.proofs.Refusals.{refusals_fit}
use Rattle.row_numbers.specs.Unfolding.{flat_file, decimal, line, fits_program}
use Rattle.unfolding.specs.Line.{numeral_from, numeral, is_digit, Spells, LineTells}
use Rattle.unfolding.proofs.Decimals.{digit}

-- ---- a number in tens
-- one digit more
numeral_more : (n : ℕ) (l : List ℕ) (d : ℕ) → numeral_from n (l ++ (d ∷ [])) ≡ 10 * numeral_from n l + (d - 0x30)
unfolding numeral_from
numeral_more n [] d = refl
numeral_more n (x ∷ l) d = numeral_more (10 * n + (x - 0x30)) l d

-- its digits are digits
digit_is : (n : ℕ) → is_digit (0x30 + n % 10) ≡ true
digit_is n = both_hold _ _ (le-leb 0x30 (0x30 + n % 10) (omega arith)) (le-leb (0x30 + n % 10) 0x39 (omega arith))

all_digits : (digits n : ℕ) → every is_digit (decimal digits n) ≡ true
unfolding decimal every
all_digits zero n = refl
all_digits (suc k) n = go (ltb n 10) (all_digits k (n / 10))
  where
    go : (t : Bool) → every is_digit (decimal k (n / 10)) ≡ true → every is_digit ((if t then [] else decimal k (n / 10)) ++ digit n) ≡ true
    go true before = both_hold _ _ (digit_is n) refl
    go false before = in_every is_digit (all_with (every_in is_digit (decimal k (n / 10)) before) (digit_is n))

-- digits enough for a number stand for it
value : (digits n : ℕ) → n < 10 ^ digits → numeral (decimal digits n) ≡ n
unfolding numeral_from decimal
value zero n h = omega arith
value (suc k) n h = go (ltb n 10) refl (value k (n / 10) (omega (arith, pow-suc 10 k)))
  where
    go : (t : Bool) → ltb n 10 ≡ t → numeral (decimal k (n / 10)) ≡ n / 10 → numeral ((if t then [] else decimal k (n / 10)) ++ digit n) ≡ n
    go true e before = let lt = ltb-true n 10 e in omega arith
    go false e before = numeral_more 0 (decimal k (n / 10)) (0x30 + n % 10) ∙ rw before (omega arith)

-- and only 0 begins with 0
no_zero : (k n : ℕ) → n < 10 ^ suc k → byte_at (decimal (suc k) n) 0 ≡ 0x30 → n ≡ 0
unfolding decimal
no_zero zero n h e = go (ltb n 10) e
  where
    go : (t : Bool) → byte_at ((if t then [] else []) ++ digit n) 0 ≡ 0x30 → n ≡ 0
    go true q = omega arith
    go false q = omega arith
no_zero (suc k) n h e = go (ltb n 10) refl (no_zero k (n / 10) (omega (arith, pow-suc 10 (suc k)))) e
  where
    front : List ℕ
    front = decimal (suc k) (n / 10)

    go : (t : Bool) → ltb n 10 ≡ t → (byte_at front 0 ≡ 0x30 → n / 10 ≡ 0) → byte_at ((if t then [] else front) ++ digit n) 0 ≡ 0x30 → n ≡ 0
    go true f before q = let lt = ltb-true n 10 f in omega arith
    go false f before q =
        let least = ltb-false n 10 f in
        let some_digit : 0 < length front = rw length-append (omega arith) in
        let none = before (sym (get_or-append front (digit n) 0 0 some_digit) ∙ q) in
        omega arith

-- ---- the line
spells : (k n : ℕ) → n < 10 ^ suc k → Spells (decimal (suc k) n) n
spells k n h = record { all_digits = all_digits (suc k) n; value = value (suc k) n h; no_zero = no_zero k n h }

pub line_tells : LineTells
unfolding refusing
line_tells s number place e = (spells _ number (let f = small.0 in omega arith), spells _ place (let f = small.1 in omega arith))
  where
    by_space : (n : Net) (t : Bool) → refusing ((14 when_not t) ∷ []) (accepted n) ≡ refused number place → (number ≤ 15) × (place ≤ 16384)
    by_space n true q = let z : ◌≡◌ {A = ℕ} 0 1 = cc in absurd (omega arith)
    by_space n false q = let i : 14 ≡ number = cc in let j : 0 ≡ place = cc in (omega arith, omega arith)

    by_net : (o : Outcome Net) → read_net s ≡ o → permitted fits_program o ≡ refused number place → (number ≤ 15) × (place ≤ 16384)
    by_net (accepted n) f q = by_space n (leb (length (flat_file n)) 65536) q
    by_net (refused k p) f q =
        let fits = refusals_fit s k p f in
        let i : number ≡ k = cc in
        let j : place ≡ p = cc in
        rw (i, j) fits

    small : (number ≤ 15) × (place ≤ 16384)
    small = by_net (read_net s) refl e

-- document 01's example, byte by byte, and what its digits stand for
line_9_27 : line 9 27 ≡ 0x72 ∷ 0x65 ∷ 0x66 ∷ 0x75 ∷ 0x73 ∷ 0x65 ∷ 0x64 ∷ 0x20 ∷ 0x39 ∷ 0x20 ∷ 0x61 ∷ 0x74 ∷ 0x20 ∷ 0x32 ∷ 0x37 ∷ 0x0A ∷ []
unfolding decimal
line_9_27 = refl

numeral_27 : numeral (0x32 ∷ 0x37 ∷ []) ≡ 27
unfolding numeral_from
numeral_27 = refl
