-- What the call that unfolds gives, from what was read, measured and written. Assumes nothing.
use Rattle.std.specs.Prelude.{◌+◌, ◌*◌, ◌∷◌, ◌++◌}
use mathlib.Core.Path.{◌≡◌, refl, sym, ap, subst, ◌∙◌}
use Prim.Native.Nat.{◌≤◌, ◌<◌}
use native.Mathlib.Omega.{arith}
use borrow.Author.Tests.{le-leb, lt-leb, leb-true, leb-false}
use lib.ListN.{length-append, length-map}
use Rattle.reading.specs.Basics.{ℕ, Bool, true, false, List, [], flat_map, length, take, leb, over}
use Rattle.reading.specs.Reading.{Outcome, accepted, refused, refusing}
use Rattle.flat_file.specs.Flat.{write_flat}
use Rattle.flat_file.proofs.Written.{place_bytes, length_places}
use Rattle.net.specs.Net.{Net, flat_place_count}
use Rattle.net_file.specs.NetFile.{read_net}
use Rattle.prepared.specs.internal.Prepared.{Prepared, InitialCounts}
use Rattle.rows.proofs.FlatPlaces.{flat_places_lem}
use Rattle.bindings.specs.Effect.{flat_places}
use Rattle.row_numbers.specs.Unfolding.{initial_at, unfolded, flat_file, WriteCall, unfold_call, line, program}
use Rattle.row_bytes.specs.internal.RowBytes.{all_bytes}
use Rattle.flat_file.specs.internal.Output.{Appended}
use Rattle.flat_file.proofs.Appending.{append_then, append_all, append_count}
use Rattle.row_bytes.proofs.RowBytes.{rows_bytes}
use Rattle.unfolding.proofs.Initial.{initial_counted}

-- ---- the call
module _ (s out : List ℕ) where
  -- the file is refused
  pub unfold_refused : {number place : ℕ} → read_net s ≡ refused number place → record { result = refused number place; out = out } ≡ unfold_call s out
  unfolding unfold_call
  unfold_refused e = rw e

  module _ {n : Net} (read : read_net s ≡ accepted n) where
    -- there is no space
    pub unfold_short : length out < length (flat_file n) → record { result = refused 14 0; out = out } ≡ unfold_call s out
    unfolding unfold_call refusing
    unfold_short h = rw (read, lt-leb (length (flat_file n)) (length out) h)

    -- the file is written
    pub unfold_whole : length (flat_file n) ≤ length out → record { result = accepted (length (flat_file n)); out = over (flat_file n) out } ≡ unfold_call s out
    unfolding unfold_call refusing
    unfold_whole h = rw (read, le-leb (length (flat_file n)) (length out) h)

-- ---- the file by its pieces
-- the counts of its flat places stand at the front of a list of 4,096
pub front_counts : {n : Net} {initial : List ℕ} {places : ℕ} → InitialCounts n initial → length initial ≡ 4096 → places ≡ flat_place_count n → places ≤ 4096
    → take places initial ≡ (unfolded n).initial
front_counts {n} {initial} held h e few = rw e (initial_counted n initial held (omega arith))

module _ {s plan : List ℕ} {n : Net} (ready : Prepared s n plan) where
  module _ {initial : List ℕ} (counts : initial ≡ (unfolded n).initial) where
    file_is : (0x02 ∷ 1 ∷ []) ++ flat_map place_bytes initial ++ all_bytes n ++ (0x5F ∷ []) ≡ flat_file n
    unfolding write_flat
    file_is = rw (counts, sym (rows_bytes n))

    pub sized : length initial ≡ flat_place_count n
    unfolding unfolded
    sized = ap length counts ∙ length-map (flat_places n) (initial_at n) ∙ flat_places_lem n

    -- its length, from that of the rows
    file-length : 3 + 3 * flat_place_count n + length (all_bytes n) ≡ length (flat_file n)
    file-length =
        let counted : List ℕ = flat_map place_bytes initial in
        omega (arith, ap length file_is, length-append (counted ++ all_bytes n) (0x5F ∷ []), length-append counted (all_bytes n), length_places initial, sized)

    -- the pieces written one behind the other are the file
    pub file_written : {o o1 o2 o3 o4 : List ℕ} {n1 n2 n3 n4 : ℕ}
        → Appended o o1 0 n1 (0x02 ∷ 1 ∷ []) → Appended o1 o2 n1 n2 (flat_map place_bytes initial)
        → Appended o2 o3 n2 n3 (all_bytes n) → Appended o3 o4 n3 n4 (0x5F ∷ []) → Appended o o4 0 n4 (flat_file n)
    file_written {o} {o4 = o4} {n4 = n4} head places rows end = subst (Appended o o4 0 n4) file_is (append_then (append_then (append_then head places) rows) end)

-- ---- what the code tells: whether there is space
module _ {s plan : List ℕ} {n : Net} (ready : Prepared s n plan) {initial : List ℕ} (counts : initial ≡ (unfolded n).initial) (out : List ℕ) {fits : Bool}
    (told : fits ≡ leb (3 + 3 * flat_place_count n + length (all_bytes n)) (length out)) where
  pub has_space : fits ≡ true → 3 + 3 * length initial + length (all_bytes n) ≤ length out
  has_space e = let le = leb-true (3 + 3 * flat_place_count n + length (all_bytes n)) (length out) (sym told ∙ e) in omega (arith, sized ready counts)

  -- the call's result
  pub call_short : fits ≡ false → record { result = refused 14 0; out = out } ≡ unfold_call s out
  call_short e =
      let lt = leb-false (3 + 3 * flat_place_count n + length (all_bytes n)) (length out) (sym told ∙ e) in
      unfold_short s out ready.read (omega (arith, file-length ready counts))

  pub call_whole : fits ≡ true → {exit : List ℕ} {size : ℕ} → Appended out exit 0 size (flat_file n) → record { result = accepted size; out = exit } ≡ unfold_call s out
  call_whole e w = rw (append_count w, append_all w) (unfold_whole s out ready.read (omega (arith, file-length ready counts, sized ready counts, has_space e)))

-- ---- the program
-- what the call gives over 65,536 bytes, and the program with it
abbrev called : Outcome ℕ → List ℕ → WriteCall
called result out = record { result = result; out = out }

data Shown (s out : List ℕ) : Type 0 where
  whole : (n : Net) → unfold_call s out ≡ called (accepted (length (flat_file n))) (over (flat_file n) out) → program s ≡ flat_file n → Shown s out
  short : (number place : ℕ) → unfold_call s out ≡ called (refused number place) out → program s ≡ line number place → Shown s out

shown : (s out : List ℕ) → length out ≡ 65536 → Shown s out
unfolding program refusing
shown s out sized = by_net (read_net s) refl
  where
    by_space : (n : Net) → read_net s ≡ accepted n → (t : Bool) → leb (length (flat_file n)) 65536 ≡ t → Shown s out
    by_space n f true t =
        let le = leb-true (length (flat_file n)) 65536 t in
        whole n (sym (unfold_whole s out f (omega arith))) (rw (f, t))
    by_space n f false t =
        let lt = leb-false (length (flat_file n)) 65536 t in
        short 14 0 (sym (unfold_short s out f (omega arith))) (rw (f, t))

    by_net : (o : Outcome Net) → read_net s ≡ o → Shown s out
    by_net (accepted n) f = by_space n f (leb (length (flat_file n)) 65536) refl
    by_net (refused number place) f = short number place (sym (unfold_refused s out f)) (rw f)

module _ (s out exit : List ℕ) (sized : length out ≡ 65536) where
  -- a file that was written is what the program writes
  pub program_writes : (k : ℕ) → called (accepted k) exit ≡ unfold_call s out → (k ≡ length (program s)) × (exit ≡ over (program s) out)
  program_writes k e = go (shown s out sized)
    where
      go : Shown s out → (k ≡ length (program s)) × (exit ≡ over (program s) out)
      go (whole n q p) =
          let i : k ≡ length (flat_file n) = let r : accepted k ≡ accepted (length (flat_file n)) = ap (λ c. c.result) (e ∙ q) in cc in
          rw p (i, ap (λ c. c.out) (e ∙ q))
      go (short number place q p) =
          let r : accepted k ≡ refused number place = ap (λ c. c.result) (e ∙ q) in let z : ◌≡◌ {A = ℕ} 0 1 = cc in absurd (omega arith)

  -- and so is the line of a refusal, over the list as it was
  pub program_refuses : (number place : ℕ) → called (refused number place) exit ≡ unfold_call s out → (exit ≡ out) × (line number place ≡ program s)
  program_refuses number place e = go (shown s out sized)
    where
      go : Shown s out → (exit ≡ out) × (line number place ≡ program s)
      go (whole n q p) = let r : refused number place ≡ accepted (length (flat_file n)) = ap (λ c. c.result) (e ∙ q) in let z : ◌≡◌ {A = ℕ} 0 1 = cc in absurd (omega arith)
      go (short a b q p) =
          let r : refused number place ≡ refused a b = ap (λ c. c.result) (e ∙ q) in
          let i : number ≡ a = cc in
          let j : place ≡ b = cc in
          (ap (λ c. c.out) (e ∙ q), rw (i, j) (sym p))

  -- the line, written
  pub program-line : (number place : ℕ) {k : ℕ} {written : List ℕ} → called (refused number place) exit ≡ unfold_call s out → k ≡ length (line number place)
      → written ≡ over (line number place) exit → (k ≡ length (program s)) × (written ≡ over (program s) out)
  program-line number place e i j =
      let (kept, p) = program_refuses number place e in
      rw (← p) (i, rw (← kept) j)
