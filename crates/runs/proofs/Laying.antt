-- Arcs laid into the front of a lent room, and behind arcs that lie there; two runs laid so, and joined. Assumes nothing.
use Rattle.std.specs.Prelude.{◌+◌, ◌-◌, ◌*◌, ◌∷◌, ◌++◌, set}
use mathlib.Core.Path.{◌≡◌, refl, sym, ap, ap₂, ◌∙◌}
use Prim.Native.Nat.{◌≤◌, ◌<◌}
use native.Mathlib.Omega.{arith}
use borrow.Rule.Slice.PartMut.{put_mid, post_of}
use Rattle.std.proofs.Math.ListN.{length-append, length-drop, length-take}
use Rattle.std.proofs.Math.Seq.{take-append-add}
use Rattle.std.proofs.lemmas.List.{take_at, drop_at, drop-take, take-append-le, take-append-drop, take-take, length-take-le}
use Rattle.reading.specs.Basics.{ℕ, List, [], length, take, drop}
use Rattle.firing.specs.declared.Arc.{Arc}
use Rattle.firing.specs.internal.RowLists.{arcs_in}
use Rattle.arc_expressions.specs.declared.operator.Operator.{Operator}
use Rattle.runs.specs.internal.Terms.{Laid, Terms, joined, join_by}

-- nothing
pub laid_none : (l : List Arc) → Laid [] l l 0
laid_none l = record { are = refl; many = refl; size = refl }

-- one arc
pub laid_one : (l : List Arc) (a : Arc) → 0 < length l → Laid (a ∷ []) l (set l 0 a) 1
laid_one [] a h = absurd (omega arith)
laid_one (b ∷ l) a h = record { are = refl; many = refl; size = refl }

-- ---- the part of a room behind its first u slots
-- that part, and the room once another lies in its place
abbrev pub behind : ℕ → List Arc → List Arc
behind u l = take (length l - u) (drop u l)

abbrev pub changed : ℕ → List Arc → List Arc → List Arc
changed u l part = put_mid u (length l - u) l part

-- how long they are
pub length-behind : (u : ℕ) (l : List Arc) → length (behind u l) ≡ length l - u
length-behind u l = simp (length-take, length-drop) (omega arith)

pub length-changed : (u : ℕ) (l part : List Arc) → u ≤ length l → length part ≡ length (behind u l) → length (changed u l part) ≡ length l
length-changed u l part le e = simp (length-append, length-take, length-drop) (omega (arith, e, length-behind u l))

-- what was laid into it
module _ (ys l part : List Arc) (u v : ℕ) (le : u ≤ length l) (put : Laid ys (behind u l) part v) where
  abbrev whole : List Arc
  whole = changed u l part

  pub laid_size : length whole ≡ length l
  laid_size = length-changed u l part le put.size

  -- those slots are kept
  pub laid_first : take u whole ≡ take u l
  laid_first = take_at (take u l) (part ++ post_of u (length l - u) l) u (length-take-le u l le)

  front : take v (part ++ post_of u (length l - u) l) ≡ ys
  front =
      let few : v ≤ length part = omega (arith, put.many, ap length put.are, length-take v part) in
      take-append-le v part _ few ∙ put.are

  pub laid_second : arcs_in whole u (u + v) ≡ ys
  unfolding arcs_in
  laid_second = let n : u + v - u ≡ v = omega arith in ap₂ take n (drop_at (take u l) (part ++ post_of u (length l - u) l) u (length-take-le u l le)) ∙ front

  pub laid_both : take (u + v) whole ≡ take u l ++ ys
  laid_both =
      let n : length (take u l) ≡ u = length-take-le u l le in
      ap (λ k. take (k + v) whole) (sym n) ∙ take-append-add (take u l) (part ++ post_of u (length l - u) l) v ∙ ap (λ m. take u l ++ m) front

-- behind what was laid before
pub laid_join : {xs ys l l' part : List Arc} {u v : ℕ} → Laid xs l l' u → u ≤ length l' → Laid ys (behind u l') part v → Laid (xs ++ ys) l (changed u l' part) (u + v)
laid_join {xs} {ys} {l} {l'} {part} {u} {v} f le g =
    record { are = laid_both ys l' part u v le g ∙ ap (λ m. m ++ ys) f.are; many = omega (arith, length-append xs ys, f.many, g.many); size = laid_size ys l' part u v le g ∙ f.size }

-- ---- arcs that lie there already
-- those up to an end behind some
pub arcs_behind : (l : List Arc) (first both : ℕ) → first ≤ both → drop first (take both l) ≡ arcs_in l first both
unfolding arcs_in
arcs_behind l first both le = let n : both ≡ first + (both - first) = omega arith in ap (λ k. drop first (take k l)) n ∙ drop-take first (both - first) l

-- two runs, one behind the other
pub laid_there : {xs : List Arc} (l : List Arc) (first both : ℕ) → first ≤ both → both ≤ length l → xs ≡ take first l ++ arcs_in l first both → Laid xs l l both
laid_there l first both le fits e =
    let are = sym (take-append-drop first (take both l)) ∙ ap₂ ◌++◌ (take-take first both l le) (arcs_behind l first both le) ∙ sym e in
    record { are = are; many = omega (arith, length-take-le both l fits, ap length are); size = refl }

-- ---- arcs that were laid
-- they lie in the room
pub laid_inside : {xs l l' : List Arc} {u : ℕ} → Laid xs l l' u → u ≤ length l'
laid_inside {l' = l'} {u = u} h = omega (arith, h.many, ap length h.are, length-take u l')

-- other arcs laid over them
pub laid_over : {xs ys l l' l'' : List Arc} {u v : ℕ} → Laid xs l l' u → Laid ys l' l'' v → Laid ys l l'' v
laid_over f g = record { are = g.are; many = g.many; size = g.size ∙ f.size }

-- so many of them changed where they lie
pub laid_front : {xs l l' ys : List Arc} {u : ℕ} → Laid xs l l' u → u ≤ length l' → length ys ≡ u → Laid ys l (put_mid 0 u l' ys) u
laid_front {xs} {l} {l'} {ys} {u} f le e =
    record { are = take_at ys (drop u l') u e; many = sym e; size = omega (arith, length-append ys (drop u l'), length-drop u l', e, le, f.size) }

-- what is left of the room behind them
pub laid_left : {xs l l' : List Arc} {u : ℕ} → Laid xs l l' u → length (behind u l') ≡ length l - length xs
laid_left {l' = l'} {u} f = omega (arith, f.many, f.size, length-behind u l', length-drop u l')

-- ---- two runs at a room's front joined
abbrev pub Merged : Operator → ℕ → ℕ → ℕ → ℕ → List Arc → List Arc → ℕ → Type 0
Merged op p q u v room room' r =
    (below : ℕ) → Terms below 0 (take u room) → Terms below 0 (arcs_in room u (u + v)) → u + v + (u + v) ≤ length room
    → Laid (joined (join_by op) p q (take u room) (arcs_in room u (u + v))) room room' r

-- the first was laid into a room, the second behind it
pub laid_merged : {xs ys l l₁ part l₃ : List Arc} {u v r : ℕ} (op : Operator) (p q count : ℕ) → Laid xs l l₁ u → Laid ys (behind u l₁) part v → Terms count 0 xs → Terms count 0 ys
    → 2 * (length xs + length ys) ≤ length l → Merged op p q u v (changed u l₁ part) l₃ r → Laid (joined (join_by op) p q xs ys) l l₃ r
laid_merged {xs} {ys} {l} {l₁} {part} {l₃} {u} {v} op p q count f g t t' i merged =
    let le : u ≤ length l₁ = omega (arith, f.many, f.size) in
    let size = laid_size ys l₁ part u v le g in
    let one : take u (changed u l₁ part) ≡ xs = laid_first ys l₁ part u v le g ∙ f.are in
    let other = laid_second ys l₁ part u v le g in
    let h = rw (one, other) at (merged count (rw one t) (rw other t') (omega (arith, size, f.many, f.size, g.many))) in
    record { are = h.are; many = h.many; size = h.size ∙ size ∙ f.size }
