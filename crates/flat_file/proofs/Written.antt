-- What stands where something was written, and how long what is written of a flat net is. Assumes nothing.
use Rattle.std.specs.Prelude.{◌+◌, ◌-◌, ◌*◌, ◌∷◌, ◌++◌}
use mathlib.Core.Path.{◌≡◌, refl, sym, ap, ◌∙◌}
use native.Mathlib.Omega.{arith}
use lib.ListN.{length-append, length-drop}
use lib.Seq.{get_or-drop, drop-drop, drop-append_seam}
use Rattle.reading.specs.Basics.{ℕ, List, [], map, flat_map, length, drop, sum, byte_at, word_at, word}
use Rattle.firing.specs.declared.Arc.{Arc}
use Rattle.firing.specs.Arcs.{Row}
use Rattle.flat_file.specs.Flat.{Flat, arc_bytes, row_bytes, write_flat}

-- ---- a place of a file from which t is left
module _ (s : List ℕ) (at : ℕ) (t : List ℕ) (e : drop at s ≡ t) where
  pub byte_there : (i : ℕ) → byte_at s (at + i) ≡ byte_at t i
  byte_there i = sym (get_or-drop at s i 0) ∙ ap (λ (l : List ℕ). byte_at l i) e

  pub word_there : (i : ℕ) → word_at s (at + i) ≡ word_at t i
  word_there i =
      let q : at + i + 1 ≡ at + (i + 1) = omega arith in
      let low = byte_there i in
      let high : byte_at s (at + i + 1) ≡ byte_at t (i + 1) = rw q (byte_there (i + 1)) in
      omega arith

  pub byte_here : byte_at s at ≡ byte_at t 0
  byte_here = let q : at + 0 ≡ at = omega arith in rw q at (byte_there 0)

  pub left : length s - at ≡ length t
  left = sym (length-drop at s) ∙ ap length e

-- past what was written
pub past : (s : List ℕ) (at : ℕ) (x t : List ℕ) → drop at s ≡ x ++ t → drop (at + length x) s ≡ t
past s at x t e = sym (drop-drop (length x) at s) ∙ ap (drop (length x)) e ∙ drop-append_seam x t

-- a u16 comes back, of whatever size
pub word_back : (n : ℕ) (t : List ℕ) → word_at (word n ++ t) 0 ≡ n
word_back n t = omega arith

-- ---- pieces
-- the bytes of a flat place's count, and of a row's arcs
abbrev pub place_bytes : ℕ → List ℕ
place_bytes count = 0x50 ∷ word count

abbrev pub arcs_bytes : Row → List ℕ
arcs_bytes r = flat_map (arc_bytes 0x52) r.takes ++ flat_map (arc_bytes 0x53) r.puts ++ flat_map (arc_bytes 0x54) r.hinders

-- ---- lengths
-- a row's arcs, and its bytes
abbrev pub arcs_of : Row → ℕ
arcs_of r = length r.takes + length r.puts + length r.hinders

abbrev pub row_size : Row → ℕ
row_size r = 1 + 5 * arcs_of r

-- pieces of one length
pub length_pieces : {A : Type 0} (f : A → List ℕ) (k : ℕ) → ((a : A) → length (f a) ≡ k) → (l : List A) → length (flat_map f l) ≡ k * length l
unfolding flat_map
length_pieces f k e [] = omega arith
length_pieces f k e (a ∷ l) = omega (arith, length-append (f a) (flat_map f l), e a, length_pieces f k e l)

pub length_places : (l : List ℕ) → length (flat_map place_bytes l) ≡ 3 * length l
length_places l = length_pieces place_bytes 3 (λ a. refl) l

pub length_arc_bytes : (byte : ℕ) (l : List Arc) → length (flat_map (arc_bytes byte) l) ≡ 5 * length l
length_arc_bytes byte l = length_pieces (arc_bytes byte) 5 (λ a. refl) l

pub length-row : (r : Row) → length (row_bytes r) ≡ row_size r
length-row r =
    let takes = flat_map (arc_bytes 0x52) r.takes in
    let puts = flat_map (arc_bytes 0x53) r.puts in
    let hinders = flat_map (arc_bytes 0x54) r.hinders in
    omega (arith, length-append (takes ++ puts) hinders, length-append takes puts, length_arc_bytes 0x52 r.takes, length_arc_bytes 0x53 r.puts, length_arc_bytes 0x54 r.hinders)

pub length-rows : (l : List Row) → length (flat_map row_bytes l) ≡ sum (map row_size l)
unfolding flat_map
length-rows [] = refl
length-rows (r ∷ l) = omega (arith, length-append (row_bytes r) (flat_map row_bytes l), length-row r, length-rows l)

-- the whole file
pub length_written : (f : Flat) → length (write_flat f) ≡ 3 + 3 * length f.initial + sum (map row_size f.rows)
unfolding write_flat
length_written f =
    let places = flat_map place_bytes f.initial in
    let rows = flat_map row_bytes f.rows in
    omega (arith, length-append (places ++ rows) (0x5F ∷ []), length-append places rows, length_places f.initial, length-rows f.rows)
