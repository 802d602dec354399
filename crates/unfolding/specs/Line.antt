-- The line of a refusal, stated: its digits are the refusal's own numbers. Types only, no proof.
use Rattle.std.specs.Prelude.{◌≡◌, ◌+◌, ◌*◌, ◌-◌, ◌&&◌, ◌∷◌}
use Rattle.reading.specs.Basics.{ℕ, Bool, true, List, [], leb, every, byte_at}
use Rattle.reading.specs.Reading.{refused, permitted}
use Rattle.net_file.specs.NetFile.{read_net}
use Rattle.row_numbers.specs.Unfolding.{fits_program, decimal}

-- the number that digits in tens stand for, behind those already read
unfoldable pub numeral_from : ℕ → List ℕ → ℕ
numeral_from n [] = n
numeral_from n (digit ∷ digits) = numeral_from (10 * n + (digit - 0x30)) digits

abbrev pub numeral : List ℕ → ℕ
numeral digits = numeral_from 0 digits

-- the bytes of digits, 0 to 9
abbrev pub is_digit : ℕ → Bool
is_digit b = leb 0x30 b && leb b 0x39

-- bytes that spell a number: digits, which stand for it, with no 0 in front of others
pub record Spells (digits : List ℕ) (n : ℕ) : Type 0 where
  pub all_digits : every is_digit digits ≡ true
  pub value : numeral digits ≡ n
  pub no_zero : byte_at digits 0 ≡ 0x30 → n ≡ 0

-- whatever net file the program refuses, its line spells the refusal's number and place in full
abbrev pub LineTells : Type 0
LineTells = (s : List ℕ) (number place : ℕ) → permitted fits_program (read_net s) ≡ refused number place
    → Spells (decimal 5 number) number × Spells (decimal 5 place) place
