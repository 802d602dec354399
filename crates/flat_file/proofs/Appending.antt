-- Pieces of bytes written one behind the other into a lent list. Assumes nothing.
use Rattle.std.specs.Prelude.{◌+◌, ◌*◌, ◌∷◌, ◌++◌}
use mathlib.Core.Path.{◌≡◌, refl, sym}
use mathlib.Core.List.{append_assoc, append-nil}
use Prim.Native.Nat.{◌≤◌, ◌<◌}
use native.Mathlib.Omega.{arith}
use native.Mathlib.Nat.{add-zero}
use native.Mathlib.Numerals.{add-one}
use lib.ListN.{length-append}
use lib.Seq.{take-suc, length-take-le}
use Rattle.reading.specs.Basics.{ℕ, List, [], flat_map, length, get_or, take, over}
use Rattle.firing.specs.declared.Arc.{Arc}
use Rattle.firing.specs.Arcs.{Row}
use Rattle.firing.specs.internal.RowLists.{EndsWithin, row_in}
use Rattle.firing.proofs.Rows.{length_arcs}
use Rattle.reading.proofs.Lists.{flat_with}
use Rattle.flat_file.specs.Flat.{arc_bytes, row_bytes}
use Rattle.flat_file.proofs.Written.{place_bytes, length_places, length_pieces, row_size, length-row, length_arc_bytes}
use Rattle.flat_file.specs.internal.Output.{Appended}

-- nothing
pub append_none : (out : List ℕ) (at : ℕ) → Appended out out at at []
append_none out at = record { next_is = sym (add-zero at); is = λ written old e n. rw append-nil e }

-- some bytes and then others
pub append_then : {entry out exit : List ℕ} {at mid next : ℕ} {a b : List ℕ} → Appended entry out at mid a → Appended out exit mid next b
    → Appended entry exit at next (a ++ b)
append_then {a = a} {b = b} x y = record {
  next_is = omega (arith, x.next_is, y.next_is, length-append a b);
  is = λ written old e n. rw (← append_assoc) (y.is (written ++ a) old (x.is written old e n) (omega (arith, x.next_is, length-append written a)));
}

-- behind the pieces of a list's front, the piece of the next
pub append_next : {A : Type 0} (f : A → List ℕ) (l : List A) (i : ℕ) (other : A) {entry mid exit : List ℕ} {at here next : ℕ} → i < length l
    → Appended entry mid at here (flat_map f (take i l)) → Appended mid exit here next (f (get_or l i other)) → Appended entry exit at next (flat_map f (take (i + 1) l))
append_next f l i other lt x y = rw (add-one, take-suc l i other lt, flat_with f (take i l) (get_or l i other)) (append_then x y)

-- before the first piece of a list
pub append_first : {A : Type 0} (f : A → List ℕ) (out : List ℕ) (at : ℕ) → Appended out out at at (flat_map f [])
unfolding flat_map
append_first f out at = append_none out at

-- how many pieces of a list's front stand there
pub next_front : {A : Type 0} (f : A → List ℕ) (k : ℕ) → ((a : A) → length (f a) ≡ k) → (l : List A) (i : ℕ) {entry exit : List ℕ} {at next : ℕ} → i ≤ length l
    → Appended entry exit at next (flat_map f (take i l)) → next ≡ at + k * i
next_front f k e l i le x = let n = length-take-le i l le in omega (arith, x.next_is, rw n at (length_pieces f k e (take i l)))

-- a whole call: the bytes stand over the front, and the next place is how many there are
pub append_all : {entry exit : List ℕ} {next : ℕ} {bytes : List ℕ} → Appended entry exit 0 next bytes → exit ≡ over bytes entry
append_all {entry} x = x.is [] entry refl refl

pub append_count : {entry exit : List ℕ} {next : ℕ} {bytes : List ℕ} → Appended entry exit 0 next bytes → next ≡ length bytes
append_count x = omega (arith, x.next_is)

-- ---- a list written piece by piece
-- to write the rest is to write the whole list
pub record Going {A : Type 0} (f : A → List ℕ) (whole rest : List A) (entry out : List ℕ) (start at : ℕ) : Type 0 where
  pub goes : (exit : List ℕ) (next : ℕ) → Appended out exit at next (flat_map f rest) → Appended entry exit start next (flat_map f whole)

module _ {A : Type 0} (f : A → List ℕ) where
  pub go_begin : (l : List A) (out : List ℕ) (at : ℕ) → Going f l l out out at at
  go_begin l out at = record { goes = λ exit next x. x }

  module _ {l rest : List A} {entry out : List ℕ} {start at : ℕ} (here : Going f l rest entry out start at) where
    -- one more is written
    pub go_on : {a : A} {more : List A} {out' : List ℕ} {at' : ℕ} → rest ≡ a ∷ more → Appended out out' at at' (f a) → Going f l more entry out' start at'
    unfolding flat_map
    go_on e x = record { goes = λ exit next y. here.goes exit next (rw e (append_then x y)) }

    -- those that give nothing are passed over
    pub go_over : {more : List A} → flat_map f rest ≡ flat_map f more → Going f l more entry out start at
    go_over e = record { goes = λ exit next y. here.goes exit next (rw e y) }

    -- none is left
    pub go_end : rest ≡ [] → Appended entry out start at (flat_map f l)
    unfolding flat_map
    go_end e = here.goes out at (rw e (append_none out at))

-- ---- lengths
-- the place behind some arcs
pub next_arcs : (byte : ℕ) (l : List Arc) {entry exit : List ℕ} {at next : ℕ} → Appended entry exit at next (flat_map (arc_bytes byte) l) → next ≡ at + 5 * length l
next_arcs byte l x = omega (arith, x.next_is, length_arc_bytes byte l)

-- a row's bytes, by its ends
pub length_row_in : (arcs : List Arc) (takes puts hinders : ℕ) → EndsWithin arcs takes puts hinders → length (row_bytes (row_in arcs takes puts hinders)) ≡ 1 + 5 * hinders
length_row_in arcs takes puts hinders h =
    let t = length_arcs arcs 0 takes (omega (arith, h)) in
    let p = length_arcs arcs takes puts (omega (arith, h)) in
    let q = length_arcs arcs puts hinders h.2 in
    omega (arith, h, length-row (row_in arcs takes puts hinders))

-- the place behind a row
pub next_row : (r : Row) {entry exit : List ℕ} {at next : ℕ} → Appended entry exit at next (row_bytes r) → next ≡ at + row_size r
next_row r x = omega (arith, x.next_is, length-row r)

-- the place behind the places' counts
pub next_places : (initial : List ℕ) {entry exit : List ℕ} {at next : ℕ} → Appended entry exit at next (flat_map place_bytes initial) → next ≡ at + 3 * length initial
next_places initial x = omega (arith, x.next_is, length_places initial)
