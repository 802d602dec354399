-- Sections of the table, read and written. Assumes nothing.
use Rattle.std.specs.Prelude.{◌+◌, ◌*◌, ◌/◌, ◌%◌}
use mathlib.Core.Path.{◌≡◌, sym, ap, ◌∙◌}
use Prim.Native.Nat.{◌≤◌, ◌<◌}
use native.Mathlib.Omega.{arith}
use mathlib.Core.Logic.{⊎_elim}
use native.Mathlib.Nat.{eq-or-lt_of_le}
use borrow.Author.Tests.{lt-ltb, le-ltb}
use lib.ListN.{set, length-set, get_or-map}
use lib.Seq.{get_or-set_same, get_or-set_other, get_or-drop}
use Rattle.reading.specs.Basics.{ℕ, List, length, get_or, drop}
use Rattle.plan.specs.internal.Layout.{places_in, arc_with, own_in, guards_in, packed_in, Placed, PlacedBy}

-- a loop that writes what a list's values become, one by one
pub record Placing {A : Type 0} (becomes : A → ℕ → Type 0) (from : ℕ) (values : List A) (before now : List ℕ) (i : ℕ) : Type 0 where
  pub inside : i ≤ length values
  pub long : length now ≡ length before
  pub done : (j : ℕ) (other : A) → j < i → becomes (get_or values j other) (get_or now (from + j) 0)
  pub front : (j : ℕ) → j < from → get_or now j 0 ≡ get_or before j 0
  pub back : (j : ℕ) → from + i ≤ j → get_or now j 0 ≡ get_or before j 0

module _ {A : Type 0} {becomes : A → ℕ → Type 0} {from : ℕ} {values : List A} {before : List ℕ} where
  pub placing_goes : {now : List ℕ} {i : ℕ} (x : ℕ) → Placing becomes from values before now i → i < length values → from + length values ≤ length before
      → ((other : A) → becomes (get_or values i other) x) → Placing becomes from values before (set now (from + i) x) (i + 1)
  placing_goes {now} {i} x here lt room is =
      record {
        inside = omega arith;
        long = length-set now (from + i) x ∙ here.long;
        done = λ j other h. ⊎_elim (λ e. rw (e, get_or-set_same now (from + i) x 0 (omega (arith, here.long))) (is other)) (λ d. rw (get_or-set_other now (from + i) (from + j) x 0 (λ e. omega arith)) (here.done j other d))
            (eq-or-lt_of_le (let s : j ≤ i = omega arith in s));
        front = λ j h. get_or-set_other now (from + i) j x 0 (λ e. omega arith) ∙ here.front j h;
        back = λ j h. get_or-set_other now (from + i) j x 0 (λ e. omega arith) ∙ here.back j (omega arith);
      }

  pub placing_ends : {now : List ℕ} {i : ℕ} → Placing becomes from values before now i → length values ≤ i → PlacedBy becomes from values before now
  placing_ends {i = i} here h =
      record { values_become = λ j other lt. here.done j other (omega arith); others_kept = record { front = here.front; back = λ j lt. here.back j (omega (arith, here.inside)) } }

-- numbers, which stay what they are
pub placed_same : {from : ℕ} {values before after : List ℕ} → PlacedBy (λ x y. y ≡ x) from values before after → Placed from values before after
placed_same h = record { values_are = λ i lt. h.values_become i 0 lt; kept = h.others_kept }

-- ---- sections read
pub own_at : (plan : List ℕ) (i : ℕ) → get_or (own_in plan) i 0 ≡ get_or plan (152 + i) 0
unfolding own_in
own_at plan i = get_or-drop 152 plan i 0

pub guard_at : (plan : List ℕ) (i : ℕ) → get_or (guards_in plan) i 0 ≡ get_or plan (120 + i) 0
unfolding guards_in
guard_at plan i = get_or-drop 120 plan i 0

pub shape_at : (plan : List ℕ) (i : ℕ) → get_or plan (56 + i) 0 ≡ get_or (places_in plan) i 0
unfolding places_in
shape_at plan i = sym (get_or-drop 56 plan i 0)

-- an arc, with what its place is like
pub arc_at_lem : (plan : List ℕ) (i : ℕ) → arc_with (places_in plan) (get_or plan (512 + i) 0) ≡ get_or (packed_in plan) i 0
unfolding packed_in
arc_at_lem plan i = sym (get_or-map (arc_with (places_in plan)) (drop 512 plan) i 0 ∙ ap (arc_with (places_in plan)) (get_or-drop 512 plan i 0))

pub arc_none : (plan : List ℕ) (i : ℕ) → get_or plan (512 + i) 0 < 1 → 0 ≡ get_or (packed_in plan) i 0
arc_none plan i h = rw (lt-ltb (get_or plan (512 + i) 0) 1 h) at (arc_at_lem plan i)

pub arc_told : (plan : List ℕ) (i : ℕ) → 1 ≤ get_or plan (512 + i) 0
    → get_or plan (512 + i) 0 / 32 * 134217728 + get_or plan (56 + get_or plan (512 + i) 0 % 32) 0 ≡ get_or (packed_in plan) i 0
arc_told plan i h = rw (shape_at plan (get_or plan (512 + i) 0 % 32)) (rw (le-ltb (get_or plan (512 + i) 0) 1 h) at (arc_at_lem plan i))
