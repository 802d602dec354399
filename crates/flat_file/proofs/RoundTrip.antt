-- What is written of a flat net is read back: places, the arcs of a row, rows, and the file. Assumes nothing.
use Rattle.std.specs.Prelude.{◌+◌, ◌&&◌, ◌∷◌, ◌++◌}
use mathlib.Core.Path.{◌≡◌, refl, sym, ap, ◌∙◌}
use mathlib.Core.List.{append_assoc, append-nil}
use Prim.Native.Nat.{◌≤◌, ◌<◌}
use native.Mathlib.Omega.{arith}
use native.Mathlib.Nat.{add-zero}
use borrow.Author.Tests.{lt-ltb, eq-eqb}
use lib.ListN.{length-append}
use Rattle.reading.specs.Basics.{ℕ, suc, true, List, [], flat_map, some, none, length, get_or, drop, ltb, eqb, find, any, every, with, byte_at, word_at}
use Rattle.reading.specs.Reading.{Answer, fine, under, ◌unless◌, failing, Command, command, accepted, outcome, whole, file}
use Rattle.reading.proofs.Commands.{known, done, passes, end, other, both_hold, standing_none, stands_goes, needs_goes}
use Rattle.reading.proofs.Lists.{In, here, any_in}
use Rattle.reading.proofs.Parts.{Reading, begins, goes_on, ends}
use Rattle.firing.specs.declared.Arc.{Arc}
use Rattle.firing.specs.Arcs.{Row, row, Rising, none as risen, more, Proper}
use Rattle.flat_file.specs.Flat.{Flat, Limits, place_part, rise, arc_part, row_part, read_flat, arc_bytes, row_bytes, write_flat}
use Rattle.flat_file.specs.internal.ReaderEnums.{arc_there}
use Rattle.flat_file.proofs.Written.{word_there, byte_here, left, past, place_bytes, arcs_bytes}

-- what is left begins with a row, or with the end of the file
data Edge : List ℕ → Type 0 where
  at_row : {t : List ℕ} → Edge (0x51 ∷ t)
  at_end : {t : List ℕ} → Edge (0x5F ∷ t)

-- ---- flat places
module _ (s : List ℕ) where
  place_step_lem : (initial : List ℕ) (at count : ℕ) (t : List ℕ) → drop at s ≡ place_bytes count ++ t → length initial < 4096
      → place_part s initial at ≡ some (fine (with initial count) (at + 3))
  unfolding place_part find
  place_step_lem initial at count t e few =
      let l = left s at (place_bytes count ++ t) e in
      let w = word_there s at (place_bytes count ++ t) e 1 in
      let back : word_at s (at + 1) ≡ count = omega arith in
      let goes : place_part s initial at ≡ some (fine (with initial (word_at s (at + 1))) (at + 3)) =
      stands_goes s at 0x50 _ (byte_here s at (place_bytes count ++ t) e) refl (omega arith) (passes (lt-ltb (length initial) 4096 few) done) in
      goes ∙ ap (λ (c : ℕ). some (fine (with initial c) (at + 3))) back

  places_read_lem : (counts initial : List ℕ) (at : ℕ) (t : List ℕ) {result : Answer (List ℕ)} → drop at s ≡ flat_map place_bytes counts ++ t → length initial + length counts ≤ 4096
      → Reading s (place_part s) initial at result → Reading s (place_part s) (initial ++ counts) (at + length (flat_map place_bytes counts)) result
  unfolding flat_map
  places_read_lem [] initial at t e few r = rw (append-nil, add-zero) r
  places_read_lem (c ∷ counts) initial at t {result} e few r =
      let rest : List ℕ = flat_map place_bytes counts ++ t in
      let l = left s at (place_bytes c ++ rest) e in
      let n = length-append initial (c ∷ []) in
      let on = goes_on s (place_part s) (with initial c) (at + 3) r (omega arith) (omega arith) (place_step_lem initial at c rest e (omega arith)) in
      let q : at + 3 + length (flat_map place_bytes counts) ≡ at + length (flat_map place_bytes (c ∷ counts)) = omega arith in
      rw (← q, ← (append_assoc initial (c ∷ []) counts)) (places_read_lem counts (with initial c) (at + 3) t (past s at (place_bytes c) rest e) (omega arith) on)

  places_end : (initial : List ℕ) (at : ℕ) {t : List ℕ} → drop at s ≡ t → Edge t → place_part s initial at ≡ none
  unfolding place_part
  places_end initial at e (at_row {t}) = standing_none s at _ (other (rw (byte_here s at (0x51 ∷ t) e)) end)
  places_end initial at e (at_end {t}) = standing_none s at _ (other (rw (byte_here s at (0x5F ∷ t) e)) end)

  places_whole : (counts : List ℕ) (at : ℕ) (t : List ℕ) → drop at s ≡ flat_map place_bytes counts ++ t → Edge t → length counts ≤ 4096
      → whole s (place_part s) [] at ≡ fine counts (at + length (flat_map place_bytes counts))
  places_whole counts at t e edge few =
      let x : List ℕ = flat_map place_bytes counts in
      sym (ends s (place_part s) (places_read_lem counts [] at t e (omega arith) (begins s (place_part s) [] at)) (places_end counts (at + length x) (past s at x t e) edge))

-- ---- arcs that stand below a place
data Under (p : ℕ) : List Arc → Type 0 where
  nowhere : Under p []
  lower : {a : Arc} {l : List Arc} → a.place < p → Under p l → Under p (a ∷ l)

under-rise : {p : ℕ} {l : List Arc} → Under p l → rise l p ≡ true
unfolding every
under-rise nowhere = refl
under-rise {p} (lower {a} h u) = rw (lt-ltb a.place p h) (under-rise u)

under_up : {p : ℕ} {l : List Arc} (q : ℕ) → p ≤ q → Under p l → Under q l
under_up q h nowhere = nowhere
under_up q h (lower {a} k u) = lower {a = a} (omega arith) (under_up q h u)

under-with : {p : ℕ} {l : List Arc} (a : Arc) → a.place < p → Under p l → Under p (with l a)
under-with a h nowhere = lower h nowhere
under-with a h (lower k u) = lower k (under-with a h u)

-- ---- the arcs of a row over n flat places
module _ (s : List ℕ) (n : ℕ) where
  -- what is known where an arc was written that may come next after those of its kind
  record Next (at byte : ℕ) (l : List Arc) (a : Arc) : Type 0 where
    stands : byte_at s at ≡ byte
    place : word_at s (at + 1) ≡ a.place
    weight : word_at s (at + 3) ≡ a.weight
    fits : at + 5 ≤ length s
    checks : (ltb (word_at s (at + 1)) n && ltb 0 (word_at s (at + 3))) ≡ true
    rises : rise l (word_at s (at + 1)) ≡ true

  next : (at byte : ℕ) (l : List Arc) (a : Arc) (t : List ℕ) → drop at s ≡ arc_bytes byte a ++ t → a.place < n → 0 < a.weight → Under a.place l → Next at byte l a
  next at byte l a t e lt pos u =
      let k = left s at (arc_bytes byte a ++ t) e in
      let w1 = word_there s at (arc_bytes byte a ++ t) e 1 in
      let w3 = word_there s at (arc_bytes byte a ++ t) e 3 in
      let p : word_at s (at + 1) ≡ a.place = omega arith in
      let w : word_at s (at + 3) ≡ a.weight = omega arith in
      record {
        stands = byte_here s at (arc_bytes byte a ++ t) e;
        place = p;
        weight = w;
        fits = omega arith;
        checks = both_hold _ _ (lt-ltb (word_at s (at + 1)) n (omega arith)) (lt-ltb 0 (word_at s (at + 3)) (omega arith));
        rises = under-rise (under_up (word_at s (at + 1)) (omega arith) u);
      }

  -- it goes to the end of its kind: `mk` makes the row of the kind's arcs
  abbrev Step : ℕ → (List Arc → Row) → Type 0
  Step byte mk = (l : List Arc) (at : ℕ) (a : Arc) → Next at byte l a → arc_part s n (mk l) at ≡ some (fine (mk (with l a)) (at + 5))

  is_arc : {at byte : ℕ} {l : List Arc} {a : Arc} → Next at byte l a → arc_there s at ≡ a
  is_arc here = λ i. record { place = here.place i; weight = here.weight i }

  take_step : Step 0x52 (λ l. row l [] [])
  unfolding arc_part find
  take_step l at a here =
      let goes : arc_part s n (row l [] []) at ≡ some (fine (row (with l (arc_there s at)) [] []) (at + 5)) =
      stands_goes s at 0x52 _ here.stands refl here.fits (passes here.checks (passes (both_hold _ _ (both_hold _ _ here.rises refl) refl) done)) in
      goes ∙ ap (λ (x : Arc). some (fine (row (with l x) [] []) (at + 5))) (is_arc here)

  put_step : (takes : List Arc) → Step 0x53 (λ l. row takes l [])
  unfolding arc_part find
  put_step takes l at a here =
      let goes : arc_part s n (row takes l []) at ≡ some (fine (row takes (with l (arc_there s at)) []) (at + 5)) =
      stands_goes s at 0x53 _ here.stands refl here.fits (passes here.checks (passes (both_hold _ _ here.rises refl) done)) in
      goes ∙ ap (λ (x : Arc). some (fine (row takes (with l x) []) (at + 5))) (is_arc here)

  hinder_step : (takes puts : List Arc) → Step 0x54 (λ l. row takes puts l)
  unfolding arc_part find
  hinder_step takes puts l at a here =
      let goes : arc_part s n (row takes puts l) at ≡ some (fine (row takes puts (with l (arc_there s at))) (at + 5)) =
      stands_goes s at 0x54 _ here.stands refl here.fits (passes here.checks (passes here.rises done)) in
      goes ∙ ap (λ (x : Arc). some (fine (row takes puts (with l x)) (at + 5))) (is_arc here)

  -- all arcs of a kind
  kind_read : (byte : ℕ) (mk : List Arc → Row) → Step byte mk → {from : ℕ} {l : List Arc} (seen : List Arc) (at : ℕ) (t : List ℕ) {result : Answer Row}
      → drop at s ≡ flat_map (arc_bytes byte) l ++ t → Under from seen → Rising n from l
      → Reading s (arc_part s n) (mk seen) at result → Reading s (arc_part s n) (mk (seen ++ l)) (at + length (flat_map (arc_bytes byte) l)) result
  unfolding flat_map
  kind_read byte mk step seen at t e u risen r = rw (append-nil, add-zero) r
  kind_read byte mk step seen at t {result} e u (more {from} {a} {l} low lt pos up) r =
      let rest : List ℕ = flat_map (arc_bytes byte) l ++ t in
      let here = next at byte seen a rest e lt pos (under_up a.place low u) in
      let on = goes_on s (arc_part s n) (mk (with seen a)) (at + 5) r (omega arith) here.fits (step seen at a here) in
      let q : at + 5 + length (flat_map (arc_bytes byte) l) ≡ at + length (flat_map (arc_bytes byte) (a ∷ l)) = omega arith in
      rw (← q, ← (append_assoc seen (a ∷ []) l))
      (kind_read byte mk step (with seen a) (at + 5) t (past s at (arc_bytes byte a) rest e) (under-with a (omega arith) (under_up (a.place + 1) (omega arith) u)) up on)

  arcs_end : (r : Row) (at : ℕ) {t : List ℕ} → drop at s ≡ t → Edge t → arc_part s n r at ≡ none
  unfolding arc_part
  arcs_end r at e (at_row {t}) = let b = byte_here s at (0x51 ∷ t) e in standing_none s at _ (other (rw b) (other (rw b) (other (rw b) end)))
  arcs_end r at e (at_end {t}) = let b = byte_here s at (0x5F ∷ t) e in standing_none s at _ (other (rw b) (other (rw b) (other (rw b) end)))

  arcs_whole : (r : Row) (at : ℕ) (t : List ℕ) → drop at s ≡ arcs_bytes r ++ t → Edge t → Proper n r
      → whole s (arc_part s n) (row [] [] []) at ≡ fine r (at + length (arcs_bytes r))
  arcs_whole r at t e edge proper =
      let takes : List ℕ = flat_map (arc_bytes 0x52) r.takes in
      let puts : List ℕ = flat_map (arc_bytes 0x53) r.puts in
      let hinders : List ℕ = flat_map (arc_bytes 0x54) r.hinders in
      let e₁ : drop at s ≡ takes ++ (puts ++ (hinders ++ t)) = e ∙ simp append_assoc in
      let e₂ = past s at takes (puts ++ (hinders ++ t)) e₁ in
      let e₃ = past s (at + length takes) puts (hinders ++ t) e₂ in
      let r₀ = begins s (arc_part s n) (row [] [] []) at in
      let r₁ = kind_read 0x52 (λ l. row l [] []) take_step [] at (puts ++ (hinders ++ t)) e₁ nowhere proper.takes r₀ in
      let r₂ = kind_read 0x53 (λ l. row r.takes l []) (put_step r.takes) [] (at + length takes) (hinders ++ t) e₂ nowhere proper.puts r₁ in
      let r₃ = kind_read 0x54 (λ l. row r.takes r.puts l) (hinder_step r.takes r.puts) [] (at + length takes + length puts) t e₃ nowhere proper.hinders r₂ in
      let q : at + length takes + length puts + length hinders ≡ at + length (arcs_bytes r) = omega (arith, length-append (takes ++ puts) hinders, length-append takes puts) in
      sym (ends s (arc_part s n) (rw q at r₃) (arcs_end r (at + length (arcs_bytes r)) (past s at (arcs_bytes r) t e) edge))

-- ---- rows
rows_edge : (rows : List Row) {t : List ℕ} → Edge t → Edge (flat_map row_bytes rows ++ t)
unfolding flat_map
rows_edge [] edge = edge
rows_edge (r ∷ rows) edge = at_row

module _ (s : List ℕ) (n : ℕ) where
  row_step : (r : Row) (seen : List Row) (at : ℕ) (t : List ℕ) → drop at s ≡ row_bytes r ++ t → Edge t → Proper n r → length seen < 65536
      → row_part s n seen at ≡ some (fine (with seen r) (at + length (row_bytes r)))
  unfolding row_part find
  row_step r seen at t e edge proper few =
      let l = left s at (row_bytes r ++ t) e in
      let arcs = arcs_whole s n r (at + 1) t (past s at (0x51 ∷ []) (arcs_bytes r ++ t) e) edge proper in
      let q : at + 1 + length (arcs_bytes r) ≡ at + length (row_bytes r) = omega arith in
      let goes : row_part s n seen at ≡ some (under (with seen) (whole s (arc_part s n) (row [] [] []) (at + 1))) =
      stands_goes s at 0x51 _ (byte_here s at (row_bytes r ++ t) e) refl (omega arith) (passes (lt-ltb (length seen) 65536 few) done) in
      goes ∙ rw (arcs, q)

  rows_read : (rows seen : List Row) (at : ℕ) (t : List ℕ) {result : Answer (List Row)} → drop at s ≡ flat_map row_bytes rows ++ t → Edge t
      → ((i : ℕ) → i < length rows → Proper n (get_or rows i (row [] [] []))) → length seen + length rows ≤ 65536
      → Reading s (row_part s n) seen at result → Reading s (row_part s n) (seen ++ rows) (at + length (flat_map row_bytes rows)) result
  unfolding flat_map
  rows_read [] seen at t e edge proper few r = rw (append-nil, add-zero) r
  rows_read (x ∷ rows) seen at t e edge proper few r =
      let rest : List ℕ = flat_map row_bytes rows ++ t in
      let e₁ : drop at s ≡ row_bytes x ++ rest = e ∙ append_assoc (row_bytes x) (flat_map row_bytes rows) t in
      let l = left s at (row_bytes x ++ rest) e₁ in
      let k = length-append (row_bytes x) rest in
      let many = length-append seen (x ∷ []) in
      let on = goes_on s (row_part s n) (with seen x) (at + length (row_bytes x)) r (omega arith) (omega arith) (row_step x seen at rest e₁ (rows_edge rows edge) (proper 0 (omega arith)) (omega arith)) in
      let q : at + length (row_bytes x) + length (flat_map row_bytes rows) ≡ at + length (flat_map row_bytes (x ∷ rows)) = omega (arith, length-append (row_bytes x) (flat_map row_bytes rows)) in
      rw (← q, ← (append_assoc seen (x ∷ []) rows))
      (rows_read rows (with seen x) (at + length (row_bytes x)) t (past s at (row_bytes x) rest e₁) edge (λ i h. proper (suc i) (omega arith)) (omega arith) on)

  rows_end : (rows : List Row) (at : ℕ) {t : List ℕ} → drop at s ≡ 0x5F ∷ t → row_part s n rows at ≡ none
  unfolding row_part
  rows_end rows at {t} e = standing_none s at _ (other (rw (byte_here s at (0x5F ∷ t) e)) end)

  rows_whole : (rows : List Row) (at : ℕ) (t : List ℕ) → drop at s ≡ flat_map row_bytes rows ++ (0x5F ∷ t)
      → ((i : ℕ) → i < length rows → Proper n (get_or rows i (row [] [] []))) → length rows ≤ 65536
      → whole s (row_part s n) [] at ≡ fine rows (at + length (flat_map row_bytes rows))
  rows_whole rows at t e proper few =
      let x : List ℕ = flat_map row_bytes rows in
      sym (ends s (row_part s n) (rows_read rows [] at (0x5F ∷ t) e at_end proper (omega arith) (begins s (row_part s n) [] at)) (rows_end rows (at + length x) (past s at x (0x5F ∷ t) e)))

-- ---- the file
only_known : {A : Type 0} (c : Command A) → known (c ∷ []) c.byte ≡ some c
unfolding find
only_known c = rw (eq-eqb c.byte c.byte refl)

-- a file whose content is read up to the end command, its last byte
file_goes : {A : Type 0} (opening : ℕ) (editions : List ℕ) (content : ℕ → Answer A) (closing : ℕ) (s : List ℕ) {a : A} {at : ℕ} → byte_at s 0 ≡ opening → In (byte_at s 1) editions → 2 ≤ length s
    → content 2 ≡ fine a at → byte_at s at ≡ closing → at + 1 ≡ length s → file opening editions content closing s ≡ fine a (at + 1)
unfolding file failing
file_goes opening editions content closing s {a} {at} first edition long reads last all =
    let opens = command opening 1 ((5 unless any (eqb (byte_at s 1)) editions) ∷ []) content in
    let closes = command closing 0 [] (fine a) in
    rw (
      needs_goes s 0 opening (opens ∷ []) first (only_known opens) long (passes (any_in (byte_at s 1) editions edition) done),
      reads,
      needs_goes s at closing (closes ∷ []) last (only_known closes) (omega arith) done,
      eq-eqb (at + 1) (length s) all,
    )

-- what is written of a flat net within the limits is read back
pub round_trip : (f : Flat) → Limits f → read_flat (write_flat f) ≡ accepted f
unfolding read_flat write_flat
round_trip f limits =
    let s : List ℕ = write_flat f in
    let places : List ℕ = flat_map place_bytes f.initial in
    let rows : List ℕ = flat_map row_bytes f.rows in
    let e : drop 2 s ≡ places ++ (rows ++ (0x5F ∷ [])) = append_assoc places rows (0x5F ∷ []) in
    let e₁ = past s 2 places (rows ++ (0x5F ∷ [])) e in
    let e₂ = past s (2 + length places) rows (0x5F ∷ []) e₁ in
    let l = left s (2 + length places + length rows) (0x5F ∷ []) e₂ in
    ap outcome (file_goes 0x02 (1 ∷ []) _ 0x5F s {at = 2 + length places + length rows} refl here (omega arith)
    (rw (places_whole s f.initial 2 (rows ++ (0x5F ∷ [])) e (rows_edge f.rows at_end) limits.places, rows_whole s (length f.initial) f.rows (2 + length places) [] e₁ limits.proper limits.rows))
    (byte_here s (2 + length places + length rows) (0x5F ∷ []) e₂) (omega arith))
