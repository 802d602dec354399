-- A function that may call itself once more. Assumes nothing.
use Rattle.std.specs.Prelude.{if◌then◌else◌}
use mathlib.Core.Path.{◌≡◌}
use Prim.Native.Nat.{◌<◌}
use native.Mathlib.Omega.{arith}
use Rattle.reading.specs.Basics.{ℕ, Bool, true, false}

-- how often it still may
abbrev pub once : Bool → ℕ
once again = if again then 1 else 0

-- in the call it may less often
pub falls_once : {again : Bool} {t : ℕ} → again ≡ true → once again ≡ t → once false < t
falls_once e f = rw (← f, e) (omega arith)
