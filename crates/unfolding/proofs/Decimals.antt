-- A number in tens, digit by digit. Assumes nothing.
use Rattle.std.specs.Prelude.{◌+◌, ◌-◌, ◌/◌, ◌%◌, ◌∷◌, ◌++◌, if◌then◌else◌}
use mathlib.Core.Path.{◌≡◌}
use Prim.Native.Nat.{◌≤◌, ◌<◌}
use native.Mathlib.Omega.{arith}
use borrow.Author.Tests.{lt-ltb, le-ltb}
use lib.ListN.{length-append}
use Rattle.reading.specs.Basics.{ℕ, zero, suc, List, [], length, Bool, true, false, ltb}
use Rattle.row_numbers.specs.Unfolding.{decimal}
use Rattle.flat_file.specs.internal.Output.{Appended}
use Rattle.flat_file.proofs.Appending.{append_none, append_then}

-- the last digit
abbrev pub digit : ℕ → List ℕ
digit n = (0x30 + n % 10) ∷ []

-- at most so many digits
pub length-decimal : (digits n : ℕ) → length (decimal digits n) ≤ digits
unfolding decimal
length-decimal zero n = omega arith
length-decimal (suc k) n = go (ltb n 10) (decimal k (n / 10)) (length-decimal k (n / 10))
  where
    go : (t : Bool) (l : List ℕ) → length l ≤ k → length ((if t then [] else l) ++ digit n) ≤ suc k
    go true l h = omega arith
    go false l h = omega (arith, length-append l (digit n))

-- the place behind them
pub next_decimal : (digits n : ℕ) {entry exit : List ℕ} {at next : ℕ} → Appended entry exit at next (decimal digits n) → next ≤ at + digits
next_decimal digits n x = omega (arith, x.next_is, length-decimal digits n)

module _ (digits n : ℕ) where
  -- no digit is left
  pub decimal_none : {out : List ℕ} {at : ℕ} → digits < 1 → Appended out out at at (decimal digits n)
  unfolding decimal
  decimal_none {out} {at} h = let e : digits ≡ 0 = omega arith in rw e (append_none out at)

  module _ {entry exit : List ℕ} {at next : ℕ} (some : 1 ≤ digits) where
    -- one digit alone
    pub decimal_last : n < 10 → Appended entry exit at next (digit n) → Appended entry exit at next (decimal digits n)
    unfolding decimal
    decimal_last h x = let e : digits ≡ suc (digits - 1) = omega arith in rw (e, lt-ltb n 10 h) x

    -- the digits before, and the last
    pub decimal_more : {out : List ℕ} {mid : ℕ} → 10 ≤ n → Appended entry out at mid (decimal (digits - 1) (n / 10)) → Appended out exit mid next (digit n)
        → Appended entry exit at next (decimal digits n)
    unfolding decimal
    decimal_more h x y = let e : digits ≡ suc (digits - 1) = omega arith in rw (e, le-ltb n 10 h) (append_then x y)
