-- Whatever bytes the flat reader accepts are those that are written of the net it found. Assumes nothing.
use Rattle.std.specs.Prelude.{◌+◌, ◌-◌, ◌%◌, ◌/◌, ◌&&◌, ◌∷◌, ◌++◌}
use mathlib.Core.Path.{◌≡◌, refl, sym, ap, ◌∙◌}
use mathlib.Core.List.{append_assoc, append-nil}
use Prim.Native.Nat.{◌≤◌}
use native.Mathlib.Omega.{arith}
use native.Mathlib.Numerals.{add-one}
use borrow.Author.Tests.{eqb-true}
use lib.Seq.{take-suc, take-length}
use Rattle.reading.specs.Basics.{ℕ, true, List, [], flat_map, some, length, take, eqb, with, byte_at, word_at, Bytes, word}
use Rattle.reading.specs.Reading.{Answer, fine, ◌and_then◌, accepted, Part, whole, file}
use Rattle.reading.proofs.Lists.{end, also, in_one, flat_with}
use Rattle.reading.proofs.Keeps.{both_true, then_went, under_went, standing_stood, repeat_keeps_at, file_stood, outcome_went}
use Rattle.firing.specs.declared.Arc.{Arc}
use Rattle.firing.specs.Arcs.{Row, row}
use Rattle.flat_file.specs.Flat.{Flat, place_part, rise, arc_part, row_part, read_flat, arc_bytes, row_bytes, write_flat, OneFile}
use Rattle.flat_file.specs.internal.ReaderEnums.{arc_there}
use Rattle.flat_file.proofs.Written.{place_bytes, arcs_bytes}

-- ---- what is written
-- of one more, behind x
one_more : {A : Type 0} (f : A → List ℕ) (x : List ℕ) (l : List A) (a : A) → x ++ flat_map f l ++ f a ≡ x ++ flat_map f (with l a)
one_more f x l a = append_assoc x (flat_map f l) (f a) ∙ ap (λ k. x ++ k) (sym (flat_with f l a))

-- of no arcs
none_written : (byte : ℕ) (l : List Arc) → eqb (length l) 0 ≡ true → flat_map (arc_bytes byte) l ≡ []
unfolding flat_map
none_written byte [] e = refl
none_written byte (a ∷ l) e = let z = eqb-true (length (a ∷ l)) 0 e in absurd (omega arith)

-- a take comes last where there are no puts and no hinders, and a put where there are no hinders
take_last : (takes puts hinders more : List ℕ) → puts ≡ [] → hinders ≡ [] → takes ++ puts ++ hinders ++ more ≡ takes ++ more ++ puts ++ hinders
take_last takes puts hinders more e f = rw (e, f) (simp append-nil)

put_last : (takes puts hinders more : List ℕ) → hinders ≡ [] → takes ++ puts ++ hinders ++ more ≡ takes ++ (puts ++ more) ++ hinders
put_last takes puts hinders more f = rw f (simp append-nil (append_assoc takes puts more))

-- ---- the bytes that were passed
module _ (s : List ℕ) (small : Bytes s) where
  record Passed (x : List ℕ) (at : ℕ) : Type 0 where
    is : take at s ≡ x
    within : at ≤ length s

  passed_as : {x y : List ℕ} {at next : ℕ} → Passed x at → x ≡ y → at ≡ next → Passed y next
  passed_as p e f = rw (← e, ← f) p

  -- a byte more, and a u16
  byte_passed : {x : List ℕ} {at b : ℕ} → Passed x at → byte_at s at ≡ b → at + 1 ≤ length s → Passed (with x b) (at + 1)
  byte_passed {at = at} p e fits = record { is = rw add-one (take-suc s at 0 (omega arith) ∙ rw (p.is, e)); within = fits }

  word-passed : {x : List ℕ} {at : ℕ} → Passed x at → at + 2 ≤ length s → Passed (x ++ word (word_at s at)) (at + 2)
  word-passed {x} {at} p fits =
      let w = word_at s at in
      let low : byte_at s at ≡ w % 256 = omega (arith, small at, small (at + 1)) in
      let high : byte_at s (at + 1) ≡ w / 256 = omega (arith, small at, small (at + 1)) in
      passed_as (byte_passed (byte_passed p low (omega arith)) high (omega arith)) (append_assoc x (w % 256 ∷ []) (w / 256 ∷ [])) (omega arith)

  -- a flat place's count, and an arc
  place_passed : {x : List ℕ} {at : ℕ} → Passed x at → byte_at s at ≡ 0x50 → at + 3 ≤ length s → Passed (x ++ place_bytes (word_at s (at + 1))) (at + 3)
  place_passed {x} {at} p e fits =
      passed_as (word-passed (byte_passed p e (omega arith)) (omega arith)) (append_assoc x (0x50 ∷ []) (word (word_at s (at + 1)))) (omega arith)

  arc-passed : {x : List ℕ} {at byte : ℕ} → Passed x at → byte_at s at ≡ byte → at + 5 ≤ length s → Passed (x ++ arc_bytes byte (arc_there s at)) (at + 5)
  arc-passed {x} {at} {byte} p e fits =
      let place = word (word_at s (at + 1)) in
      let weight = word (word_at s (at + 3)) in
      let q : at + 1 + 2 ≡ at + 3 = omega arith in
      let to-place = passed_as (word-passed (byte_passed p e (omega arith)) (omega arith)) (append_assoc x (byte ∷ []) place) q in
      passed_as (word-passed to-place (omega arith)) (append_assoc x (byte ∷ place) weight) (omega arith)

  -- ---- a part: behind x, what is written of the value so far was passed
  part_passed : {A : Type 0} (part : Part A) (written : A → List ℕ) (x : List ℕ)
      → ((a b : A) (at next : ℕ) → Passed (x ++ written a) at → part a at ≡ some (fine b next) → Passed (x ++ written b) next)
      → {a b : A} {at next : ℕ} → written a ≡ [] → Passed x at → whole s part a at ≡ fine b next → Passed (x ++ written b) next
  part_passed part written x step {at = at} e p reads =
      let nothing = passed_as p (sym (append-nil x) ∙ ap (λ l. x ++ l) (sym e)) refl in
      repeat_keeps_at part (λ a place. Passed (x ++ written a) place) step (length s - at) at nothing reads

  -- ---- flat places
  place_step_lem : (x initial more : List ℕ) (at next : ℕ) → Passed (x ++ flat_map place_bytes initial) at → place_part s initial at ≡ some (fine more next)
      → Passed (x ++ flat_map place_bytes more) next
  unfolding place_part
  place_step_lem x initial more at next p e = standing_stood s at (also (λ stands fits holds q.
      let count = word_at s (at + 1) in
      let grows : with initial count ≡ more = cc in
      let ends : at + 3 ≡ next = cc in
      passed_as (place_passed p stands fits) (one_more place_bytes x initial count ∙ ap (λ l. x ++ flat_map place_bytes l) grows) ends) end) e

  -- ---- the arcs of a row
  arc_step_lem : (x : List ℕ) (n : ℕ) (r more : Row) (at next : ℕ) → Passed (x ++ arcs_bytes r) at → arc_part s n r at ≡ some (fine more next) → Passed (x ++ arcs_bytes more) next
  unfolding arc_part
  arc_step_lem x n r more at next p e =
      let a = arc_there s at in
      let takes = flat_map (arc_bytes 0x52) r.takes in
      let puts = flat_map (arc_bytes 0x53) r.puts in
      let hinders = flat_map (arc_bytes 0x54) r.hinders in
      let noPuts = eqb (length r.puts) 0 in
      let noHinders = eqb (length r.hinders) 0 in
      standing_stood s at
      (also (λ stands fits holds q.
      let (before-hinders, f) = both_true (rise r.takes a.place && noPuts) noHinders holds.1.0 in
      let (rises, g) = both_true (rise r.takes a.place) noPuts before-hinders in
      passed stands fits q (take_last takes puts hinders (arc_bytes 0x52 a) (none_written 0x53 r.puts g) (none_written 0x54 r.hinders f)
      ∙ ap (λ l. l ++ puts ++ hinders) (sym (flat_with (arc_bytes 0x52) r.takes a))))
      (also (λ stands fits holds q.
      let (rises, f) = both_true (rise r.puts a.place) noHinders holds.1.0 in
      passed stands fits q (put_last takes puts hinders (arc_bytes 0x53 a) (none_written 0x54 r.hinders f)
      ∙ ap (λ l. takes ++ l ++ hinders) (sym (flat_with (arc_bytes 0x53) r.puts a))))
      (also (λ stands fits holds q. passed stands fits q (one_more (arc_bytes 0x54) (takes ++ puts) r.hinders a)) end))) e
    where
      passed : {byte : ℕ} {with_it : Row} → byte_at s at ≡ byte → at + 5 ≤ length s → fine with_it (at + 5) ≡ fine more next
          → arcs_bytes r ++ arc_bytes byte (arc_there s at) ≡ arcs_bytes with_it → Passed (x ++ arcs_bytes more) next
      passed {byte} {with_it} stands fits q grows =
          let is : with_it ≡ more = cc in
          let ends : at + 5 ≡ next = cc in
          passed_as (arc-passed p stands fits) (append_assoc x (arcs_bytes r) (arc_bytes byte (arc_there s at)) ∙ ap (λ l. x ++ l) (grows ∙ ap arcs_bytes is)) ends

  -- ---- rows
  row_step : (x : List ℕ) (n : ℕ) (rows more : List Row) (at next : ℕ) → Passed (x ++ flat_map row_bytes rows) at → row_part s n rows at ≡ some (fine more next)
      → Passed (x ++ flat_map row_bytes more) next
  unfolding row_part flat_map
  row_step x n rows more at next p e = standing_stood s at (also (λ stands fits holds q.
      under_went (with rows) (whole s (arc_part s n) (row [] [] []) (at + 1)) q λ r reads grows.
      let y = x ++ flat_map row_bytes rows in
      let arcs = part_passed (arc_part s n) arcs_bytes (with y 0x51) (arc_step_lem (with y 0x51) n) refl (byte_passed p stands fits) reads in
      passed_as arcs (append_assoc y (0x51 ∷ []) (arcs_bytes r) ∙ one_more row_bytes x rows r ∙ ap (λ l. x ++ flat_map row_bytes l) grows) refl) end) e

-- ---- the file
pub one_file : OneFile
unfolding read_flat write_flat flat_map
one_file s f small e =
    outcome_went (file 0x02 (1 ∷ []) content 0x5F s) e λ last g.
    file_stood 0x02 (1 ∷ []) content 0x5F s g λ at opens edition long reads closes all.
    then_went (whole s (place_part s) [] 2) behind reads λ initial mid h i.
    then_went (whole s (row_part s (length initial)) [] mid) (λ rows end. fine (flat initial rows) end) i λ rows stop j k.
    let nothing : Passed s small [] 0 = record { is = refl; within = omega arith } in
    let head = byte_passed s small (byte_passed s small nothing opens (omega arith)) (in_one edition) long in
    let places = part_passed s small (place_part s) (flat_map place_bytes) (0x02 ∷ 1 ∷ []) (place_step_lem s small (0x02 ∷ 1 ∷ [])) refl head h in
    let x : List ℕ = 0x02 ∷ 1 ∷ flat_map place_bytes initial in
    let passed = part_passed s small (row_part s (length initial)) (flat_map row_bytes) x (row_step s small x (length initial)) refl places j in
    let ends : stop ≡ at = cc in
    let found : flat initial rows ≡ f = cc in
    let done = byte_passed s small (passed_as s small passed refl ends) closes (omega arith) in
    sym (take-length s) ∙ rw (← all) done.is ∙ ap write_flat found
  where
    flat : List ℕ → List Row → Flat
    flat initial rows = record { initial = initial; rows = rows }

    behind : List ℕ → ℕ → Answer Flat
    behind initial at = whole s (row_part s (length initial)) [] at and_then λ rows end. fine (flat initial rows) end

    content : ℕ → Answer Flat
    content start = whole s (place_part s) [] start and_then behind

-- so two accepted files with one net are one file
pub same-file : (s t : List ℕ) (f : Flat) → Bytes s → Bytes t → read_flat s ≡ accepted f → read_flat t ≡ accepted f → s ≡ t
same-file s t f small low e g = one_file s f small e ∙ sym (one_file t f low g)
