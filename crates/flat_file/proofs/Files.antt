-- The places and the rows of a file read so far, and the file's parts in turn. Assumes nothing.
use Rattle.std.specs.Prelude.{◌+◌, ◌-◌, ◌*◌, ◌∷◌, Option, Some, None, Result, Ok, Err}
use mathlib.Core.Path.{◌≡◌, refl, sym, ap, ◌∙◌}
use Prim.Native.Nat.{◌≤◌, ◌<◌}
use native.Mathlib.Omega.{arith}
use native.Mathlib.Decide.{dec_lt}
use borrow.Author.Tests.{eq-eqb, ne_eqb, ltb-true}
use lib.ListN.{set, length-set, length-append, get_or-append}
use lib.Seq.{get_or-set_same, get_or-set_other, get_or_at}
use Rattle.reading.specs.Basics.{ℕ, Bool, true, false, List, [], option_map, none, some, length, get_or, ltb, find, with, byte_at, word_at}
use Rattle.reading.specs.Reading.{Answer, fine, fault, under, ◌and_then◌, refused, outcome, ◌unless◌, Command, command, standing, whole, file}
use Rattle.reading.specs.Refusals.{number_of, answered}
use Rattle.reading.specs.declared.refusal.Refusal.{Refusal}
use Rattle.reading.proofs.Commands.{known, passes, done, fails, other, end, standing_none, stands_cut, stands_fails, stands_goes}
use Rattle.reading.specs.internal.Frame.{opened, closed, going}
use Rattle.reading.proofs.Framed.{onto, standing_onto, goes_in, goes_out}
use Rattle.reading.proofs.Parts.{Reading, begins, goes_on, ends, stops}
use Rattle.firing.specs.Arcs.{Row, row}
use Rattle.flat_file.specs.Flat.{Flat, place_part, row_part, read_flat}
use Rattle.flat_file.specs.internal.ReaderEnums.{step_of, step_told, StepRoom, PlacesHeld, PlacesRead, ArcsPassed, arcs_at, RowsReadable, RowsHeld, RowsRead, Scanned}

-- ---- a step at one command, whatever follows it
module _ {A : Type 0} (go : ℕ → Answer A) where
  told_goes : (step : Result (Option ℕ) Refusal) → option_map (onto go) (step_told (λ next. fine next next) step) ≡ step_told go step
  told_goes (Ok None) = refl
  told_goes (Ok (Some next)) = refl
  told_goes (Err e) = refl

  pub step_goes : (s : List ℕ) (byte width : ℕ) (room : Bool) (at : ℕ) (step : Result (Option ℕ) Refusal) → step_of s byte width room at ≡ step_told (λ next. fine next next) step
      → standing s (command byte (width - 1) ((4 unless room) ∷ []) go ∷ []) at ≡ step_told go step
  step_goes s byte width room at step e = standing_onto go s byte (width - 1) ((4 unless room) ∷ []) at ∙ ap (option_map (onto go)) e ∙ told_goes step

-- what stands at one command's place
module _ (s : List ℕ) (byte width : ℕ) (room : Bool) (at : ℕ) where
  abbrev one : Command ℕ
  one = command byte (width - 1) ((4 unless room) ∷ []) (λ next. fine next next)

  pub step_other : (byte_at s at ≡ byte → ⊥) → step_of s byte width room at ≡ none
  step_other ne = standing_none s at (one ∷ []) (other (ne_eqb (byte_at s at) byte ne) end)

  module _ (stands : byte_at s at ≡ byte) (wide : 0 < width) where
    is_known : known (one ∷ []) byte ≡ some one
    unfolding find
    is_known = rw (eq-eqb byte byte refl)

    pub step_cut : length s < at + width → step_of s byte width room at ≡ some (fault 2 (length s))
    step_cut lt = stands_cut s at byte (one ∷ []) stands is_known (omega arith)

    pub step_full : at + width ≤ length s → room ≡ false → step_of s byte width room at ≡ some (fault 4 at)
    step_full le e = stands_fails s at byte (one ∷ []) stands is_known (omega arith) (fails e)

    pub step_on : at + width ≤ length s → room ≡ true → step_of s byte width room at ≡ some (fine (at + width) (at + width))
    step_on le e =
        let w : at + (1 + (width - 1)) ≡ at + width = omega arith in
        stands_goes s at byte (one ∷ []) stands is_known (omega arith) (passes e done) ∙ rw w

-- ---- the places so far
pub record PlacesSoFar (s : List ℕ) (start count at : ℕ) : Type 0 where
  pub initial : List ℕ
  pub sized : length initial ≡ count
  pub few : count ≤ 4096
  pub counted : at ≡ start + 3 * count
  pub within : at ≤ length s
  pub reading : Reading s (place_part s) initial at (whole s (place_part s) [] start)

-- before the first place
pub places_begin : (s : List ℕ) (start : ℕ) → start ≤ length s → PlacesSoFar s start 0 start
places_begin s start le = record { initial = []; sized = refl; few = omega arith; counted = omega arith; within = le; reading = begins s (place_part s) [] start }

-- by the next step they end, have a fault, or go on
module _ {s : List ℕ} {start count at : ℕ} (here : PlacesSoFar s start count at) {step : Result (Option ℕ) Refusal}
    (is : (initial : List ℕ) → length initial ≡ count → place_part s initial at ≡ step_told (fine (with initial (word_at s (at + 1)))) step)
    (room : StepRoom (ltb count 4096) 3 (length s) at step) where
  pub places_end : step ≡ Ok None → PlacesHeld s start count at
  places_end e =
      record {
        initial = here.initial;
        sized = here.sized;
        few = here.few;
        near = omega (arith, here.few, here.counted);
        within = here.within;
        is = ends s (place_part s) here.reading (is here.initial here.sized ∙ ap (step_told _) e);
      }

  pub places_stop : {x : Refusal} → step ≡ Err x → PlacesRead s start (Err x)
  places_stop e = stops s (place_part s) here.reading (rw e at room) (is here.initial here.sized ∙ ap (step_told _) e)

  module _ {next : ℕ} (e : step ≡ Ok (Some next)) where
    pub place_room : (count < 4096) × (next ≡ at + 3) × (next ≤ length s)
    place_room = let r = rw e at room in (ltb-true count 4096 r.0, r.1, r.2)

    pub place_more : PlacesSoFar s start (count + 1) next
    place_more =
        let more = with here.initial (word_at s (at + 1)) in
        record {
          initial = more;
          sized = length-append here.initial (word_at s (at + 1) ∷ []) ∙ omega (arith, here.sized);
          few = omega (arith, place_room.0);
          counted = omega (arith, here.counted, place_room.1);
          within = place_room.2;
          reading = goes_on s (place_part s) more next here.reading (omega (arith, place_room.1)) place_room.2 (is here.initial here.sized ∙ ap (step_told _) e);
        }

-- ---- the rows so far, their starts in a list of so many
pub record RowsSoFar (s : List ℕ) (n start size : ℕ) (starts : List ℕ) (count at : ℕ) : Type 0 where
  pub rows : List Row
  pub sized : length rows ≡ count
  pub few : count ≤ 65536
  pub long : length starts ≡ size
  pub early : start ≤ 12290
  pub near : at ≤ start + 61441 * count
  pub counted : count ≤ at
  pub within : at ≤ length s
  pub reading : Reading s (row_part s n) rows at (whole s (row_part s n) [] start)
  pub stands : RowsReadable s n starts rows

-- before the first row
pub rows_begin : (s : List ℕ) (n start : ℕ) (starts : List ℕ) → start ≤ 12290 → start ≤ length s → RowsSoFar s n start (length starts) starts 0 start
rows_begin s n start starts early le =
    record {
      rows = [];
      sized = refl;
      few = omega arith;
      long = refl;
      early = early;
      near = omega arith;
      counted = omega arith;
      within = le;
      reading = begins s (row_part s n) [] start;
      stands = λ i lt room. absurd (omega arith);
    }

-- by the next step they end, have a fault, or go on with a row's arcs
module _ {s : List ℕ} {n start size : ℕ} {starts : List ℕ} {count at : ℕ} (here : RowsSoFar s n start size starts count at) {step : Result (Option ℕ) Refusal}
    (is : (places : ℕ) (before : List Row) → length before ≡ count → row_part s places before at ≡ step_told (λ first. under (with before) (arcs_at s places first)) step)
    (room : StepRoom (ltb count 65536) 1 (length s) at step) where
  pub rows_end : step ≡ Ok None → RowsHeld s n start starts count at
  rows_end e =
      record {
        rows = here.rows;
        sized = here.sized;
        fits = omega (arith, here.few, here.counted, here.within);
        is = ends s (row_part s n) here.reading (is n here.rows here.sized ∙ ap (step_told _) e);
        stands = here.stands;
      }

  pub rows_stop : {x : Refusal} → step ≡ Err x → RowsRead s n start starts (Err x)
  rows_stop e = stops s (row_part s n) here.reading (rw e at room) (is n here.rows here.sized ∙ ap (step_told _) e)

  module _ {first : ℕ} (e : step ≡ Ok (Some first)) where
    pub row_room : (count < 65536) × (first ≡ at + 1) × (first ≤ length s)
    row_room = let r = rw e at room in (ltb-true count 65536 r.0, r.1, r.2)

    -- where its arcs start is a u32
    pub row_start : first < 4294967296
    row_start = omega (arith, here.early, here.near, row_room)

    row_step : row_part s n here.rows at ≡ some (under (with here.rows) (arcs_at s n first))
    row_step = is n here.rows here.sized ∙ ap (step_told _) e

    -- its arcs have a fault
    pub row_stop : (x : Refusal) → ArcsPassed s n first (Err x) → RowsRead s n start starts (Err x)
    row_stop x f = stops s (row_part s n) here.reading (omega (arith, row_room)) (row_step ∙ rw (← f))

    -- its arcs are read
    module _ {next : ℕ} (passed : ArcsPassed s n first (Ok next)) where
      abbrev x : Row
      x = passed.0.0

      f : fine x next ≡ arcs_at s n first
      f = passed.0.1

      pub row_inside : (at < next) × (next ≤ length s)
      row_inside = (omega (arith, passed.1, row_room.1), passed.3 row_room.2)

      -- every row so far, and this one, can be read again from its start
      all_stand : RowsReadable s n (set starts count first) (with here.rows x)
      all_stand i lt room = elim (dec_lt i count) [ yes old ↦ earlier old | no new ↦ last (omega (arith, length-append here.rows (x ∷ []), here.sized)) ]
        where
          reached : i < length starts
          reached = omega (arith, room, length-set starts count first)

          earlier : i < count → (after : ℕ) × (arcs_at s n (get_or (set starts count first) i 0) ≡ fine (get_or (with here.rows x) i (row [] [] [])) after)
          earlier old = rw (get_or-set_other starts count i first 0 (λ e. omega arith), get_or-append here.rows (x ∷ []) (row [] [] []) i (omega (arith, here.sized))) (here.stands i (omega (arith, here.sized)) reached)

          last : i ≡ count → (after : ℕ) × (arcs_at s n (get_or (set starts count first) i 0) ≡ fine (get_or (with here.rows x) i (row [] [] [])) after)
          last new = (next, rw (new, get_or-set_same starts count first 0 (omega (arith, reached)), get_or_at here.rows x [] (row [] [] []) count here.sized) (sym f))

      pub row_more : RowsSoFar s n start size (set starts count first) (count + 1) next
      row_more =
          record {
            rows = with here.rows x;
            sized = length-append here.rows (x ∷ []) ∙ omega (arith, here.sized);
            few = omega (arith, row_room.0);
            long = length-set starts count first ∙ here.long;
            early = here.early;
            near = omega (arith, here.near, passed.2, row_room.1);
            counted = omega (arith, here.counted, row_inside.0);
            within = row_inside.1;
            reading = goes_on s (row_part s n) (with here.rows x) next here.reading row_inside.0 row_inside.1 (row_step ∙ rw (← f));
            stands = all_stand;
          }

-- ---- the whole file, part after part
abbrev content : List ℕ → ℕ → Answer Flat
content s start =
    whole s (place_part s) [] start and_then λ initial at.
    whole s (row_part s (length initial)) [] at and_then λ rows end.
    fine (record { initial = initial; rows = rows }) end

module _ (s : List ℕ) {first : Result ℕ Refusal} (is_opened : opened s 0x02 (λ next. fine next next) ≡ going (λ next. fine next next) first) where
  pub not_opened : {x : Refusal} → first ≡ Err x → read_flat s ≡ refused (number_of x.reason) x.place
  unfolding read_flat file
  not_opened e = rw (goes_in s 0x02 first is_opened (content s), e)

  module _ {start : ℕ} (e : first ≡ Ok start) where
    read_on : read_flat s ≡ outcome (content s start and_then closed s 0x5F)
    unfolding read_flat file
    read_on = rw (goes_in s 0x02 first is_opened (content s), e)

    pub places_refused : (x : Refusal) → PlacesRead s start (Err x) → read_flat s ≡ refused (number_of x.reason) x.place
    places_refused x f = read_on ∙ rw (← f)

    module _ {count next : ℕ} (places : PlacesHeld s start count next) where
      pub rows_refused : (starts : List ℕ) (x : Refusal) → RowsRead s count next starts (Err x) → read_flat s ≡ refused (number_of x.reason) x.place
      rows_refused starts x f = read_on ∙ rw (← places.is, places.sized, ← f)

      -- what stands at the end decides
      module _ {starts : List ℕ} {rows end : ℕ} (held : RowsHeld s count next starts rows end) where
        abbrev found : Flat
        found = record { initial = places.initial; rows = held.rows }

        left : read_flat s ≡ outcome (closed s 0x5F found end)
        left = read_on ∙ rw (← places.is, places.sized, ← held.is)

        module _ {last : Result (Unit {0}) Refusal} (is_closed : closed s 0x5F (tt {0}) end ≡ answered (λ u. u) (λ u. end + 1) last) where
          pub not_closed : {x : Refusal} → last ≡ Err x → read_flat s ≡ refused (number_of x.reason) x.place
          not_closed e = left ∙ rw (goes_out s 0x5F found end last is_closed, e)

          pub all_read : last ≡ Ok tt → Scanned s starts (Ok (record { places = count; rows = rows }))
          all_read e = (
            found,
            record {
              is = left ∙ rw (goes_out s 0x5F found end last is_closed, e);
              places_are = places.sized;
              rows_are = held.sized;
              few_places = places.few;
              fits = held.fits;
              stands = λ i lt room. held.stands i (omega (arith, held.sized)) room;
            },
          )
