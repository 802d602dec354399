-- A read adds to what was read, and leaves the bytes before it as they were.
use Rattle.std.proofs.Common.{◌≡◌, ℕ, ◌+◌, ◌-◌, ◌≤◌, List, ◌++◌, arith, length, take, slice_range, sym, ap, ◌∙◌, subst, le_refl, drop_at, length-take-le}
use Rattle.std.proofs.lemmas.Slice.{take-put_mid_below}
use Rattle.std.specs.Io.KnownBytes.{Consumes}
use Rattle.std.proofs.KnownBytes.{Consumes-trans}
use borrow.Rule.Slice.PartMut.{put_mid, post_of}
use lib.Seq.{take-add, take-append-le}
use Rattle.unfold.proofs.input.read_input.Goals as goal

front : (a k : ℕ) (xs ys : List ℕ) → a ≤ length xs → take a (put_mid a k xs ys) ≡ take a xs
front a k xs ys within = take-put_mid_below _ _ _ _ _ (le_refl _) within

part : (a k n : ℕ) (xs ys : List ℕ) → a ≤ length xs → n ≤ length ys → slice_range (put_mid a k xs ys) a (a + n) ≡ take n ys
part a k n xs ys within fits =
    let same : (a + n) - a ≡ n = omega arith in
    let after = post_of a k xs in
    ap (take ((a + n) - a)) (drop_at (take a xs) (ys ++ after) a (length-take-le a xs within)) ∙ ap (λ m. take m (ys ++ after)) same ∙ take-append-le n ys after fits

joined : (a k n : ℕ) (xs ys : List ℕ) → a ≤ length xs → n ≤ length ys → take a xs ++ take n ys ≡ take (a + n) (put_mid a k xs ys)
joined a k n xs ys within fits =
    let same : a + ((a + n) - a) ≡ a + n = omega arith in
    let all = put_mid a k xs ys in
    ap (λ l. take a xs ++ l) (sym (part a k n xs ys within fits)) ∙ ap (λ l. l ++ slice_range all a (a + n)) (sym (front a k xs ys within)) ∙ sym (take-add a ((a + n) - a) all) ∙ ap (λ m. take m all) same

pub loop-done-preserved : goal.loop-done-preserved
loop-done-preserved g c = (grind arith, subst (Consumes _ _) (joined _ _ _ _ _ c.loop-done.invariant.0 c.in_ok-more.ensures.bound.0) (Consumes-trans _ _ _ _ _ c.loop-done.invariant.1 c.in_ok-more.ensures.bytes.0))
