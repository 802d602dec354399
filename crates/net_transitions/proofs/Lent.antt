-- A part of a table that was lent and put back. Assumes nothing.
use Rattle.std.specs.Prelude.{◌+◌, ◌++◌}
use mathlib.Core.Path.{◌≡◌, sym, ap, ◌∙◌}
use Prim.Native.Nat.{◌≤◌, ◌<◌}
use native.Mathlib.Omega.{arith}
use lib.ListN.{length-drop, get_or-append}
use lib.Seq.{length-take-le, get_or-append-add, get_or-take}
use Rattle.reading.specs.Basics.{ℕ, List, length, get_or, take, drop}

-- what stands in the part, and before it
pub part_in : (xs ys zs : List ℕ) (a i : ℕ) → a ≤ length xs → i < length ys → get_or (take a xs ++ (ys ++ zs)) (a + i) 0 ≡ get_or ys i 0
part_in xs ys zs a i le lt =
    ap (λ k. get_or (take a xs ++ (ys ++ zs)) (k + i) 0) (sym (length-take-le a xs le)) ∙ get_or-append-add (take a xs) (ys ++ zs) i 0 ∙ get_or-append ys zs 0 i lt

pub part_before : (xs ys : List ℕ) (a i : ℕ) → a ≤ length xs → i < a → get_or (take a xs ++ ys) i 0 ≡ get_or xs i 0
part_before xs ys a i le lt = get_or-append (take a xs) ys 0 i (rw (length-take-le a xs le) lt) ∙ get_or-take a xs i 0 lt

pub part_sized : (xs : List ℕ) (a k : ℕ) → a + k ≤ length xs → length (take k (drop a xs)) ≡ k
part_sized xs a k le = length-take-le k (drop a xs) (rw (length-drop a xs) (omega arith))
