-- The flat net, its file, and firing on it. Nothing here knows of colours.
use Rattle.std.specs.Prelude.{◌≡◌, ◌≤◌, ◌<◌, ◌+◌, ◌&&◌, ◌∷◌, ◌++◌, if◌then◌else◌}
use Rattle.reading.specs.Basics.{ℕ, Bool, List, [], flat_map, length, get_or, ltb, eqb, with, below, every, byte_at, word_at, long_at, Bytes, word, items}
use Rattle.reading.specs.Reading.{fine, ◌and_then◌, under, Outcome, accepted, refused, outcome, on, ◌unless◌, Command, command, standing, Part, whole, file}
use Rattle.firing.specs.Firing.{Fired, fired, fire, First}
use Rattle.firing.specs.declared.Arc.{Arc}
use Rattle.firing.specs.Arcs.{Row, row, weights, Proper}
use Rattle.firing.specs.Calls.{FireCall, marking_checks, fire_checks, fire_call, first_call}

-- ---- the net
-- each flat place's initial count, and the rows
pub record Flat : Type 0 where
  pub initial : List ℕ
  pub rows : List Row

-- within the limits: at most 4,096 flat places and 65,536 rows, each row's arcs by rising place, below the place count, of weights above 0
pub record Limits (f : Flat) : Type 0 where
  pub places : length f.initial ≤ 4096
  pub rows : length f.rows ≤ 65536
  pub proper : (i : ℕ) → i < length f.rows → Proper (length f.initial) (get_or f.rows i (row [] [] []))

-- ---- reading
-- 0x50: a flat place's initial count; at most 4,096
unfoldable pub place_part : List ℕ → Part (List ℕ)
place_part s initial at =
    standing s (command 0x50 2 ((4 unless ltb (length initial) 4096) ∷ []) (fine (with initial (word_at s (at + 1)))) ∷ []) at

-- arcs that rise to a place: all stand at a lower one
abbrev pub rise : List Arc → ℕ → Bool
rise arcs p = every (λ a. ltb a.place p) arcs

-- an arc at one of so many flat places, with a weight above 0 (5), in order (9), and the row with it
abbrev pub arc_command : ℕ → ℕ → Arc → Bool → Row → Command Row
arc_command places byte a in_order more =
    command byte 4 ((5 unless (ltb a.place places && ltb 0 a.weight)) ∷ (9 unless in_order) ∷ []) (fine more)

-- 0x52 takes come first, then 0x53 puts, then 0x54 hinders, each by rising place
unfoldable pub arc_part : List ℕ → ℕ → Part Row
arc_part s places r at =
    let p = word_at s (at + 1) in
    let a : Arc = record { place = p; weight = word_at s (at + 3) } in
    let noPuts = eqb (length r.puts) 0 in
    let noHinders = eqb (length r.hinders) 0 in
    standing s (arc_command places 0x52 a (rise r.takes p && noPuts && noHinders) (row (with r.takes a) r.puts r.hinders)
    ∷ arc_command places 0x53 a (rise r.puts p && noHinders) (row r.takes (with r.puts a) r.hinders)
    ∷ arc_command places 0x54 a (rise r.hinders p) (row r.takes r.puts (with r.hinders a)) ∷ []) at

-- 0x51: a row, at most 65,536, and the arcs that follow it
unfoldable pub row_part : List ℕ → ℕ → Part (List Row)
row_part s places rows at =
    standing s (command 0x51 0 ((4 unless ltb (length rows) 65536) ∷ [])
    (λ next. under (with rows) (whole s (arc_part s places) (row [] [] []) next)) ∷ []) at

-- 0x02, the flat places, the rows, 0x5F
unfoldable pub read_flat : List ℕ → Outcome Flat
read_flat s =
    outcome (file 0x02 (1 ∷ []) (λ start.
    whole s (place_part s) [] start and_then λ initial at.
    whole s (row_part s (length initial)) [] at and_then λ rows end.
    fine (record { initial = initial; rows = rows }) end) 0x5F s)

-- ---- writing
-- the bytes of an arc, of a row, of the file
abbrev pub arc_bytes : ℕ → Arc → List ℕ
arc_bytes byte a = byte ∷ word a.place ++ word a.weight

abbrev pub row_bytes : Row → List ℕ
row_bytes r = 0x51 ∷ flat_map (arc_bytes 0x52) r.takes ++ flat_map (arc_bytes 0x53) r.puts ++ flat_map (arc_bytes 0x54) r.hinders

unfoldable pub write_flat : Flat → List ℕ
write_flat f = 0x02 ∷ 1 ∷ flat_map (λ count. 0x50 ∷ word count) f.initial ++ flat_map row_bytes f.rows ++ (0x5F ∷ [])

-- one net, one file: whatever bytes are accepted are those that are written of the net found
abbrev pub OneFile : Type 0
OneFile = (s : List ℕ) (f : Flat) → Bytes s → read_flat s ≡ accepted f → s ≡ write_flat f

-- ---- firing
-- a row by its number: 1 where there is no such row
unfoldable pub fire_row : Flat → ℕ → List ℕ → Fired
fire_row f i m = if ltb i (length f.rows) then fire [] (weights (get_or f.rows i (row [] [] []))) m else fired 1 m

-- an image, 0x61 and a row number u32: 1 for another command byte
unfoldable pub fire_image : Flat → List ℕ → List ℕ → Fired
fire_image f image m = if eqb (byte_at image 0) 0x61 then fire_row f (long_at image 1) m else fired 1 m

-- ---- the calls
-- how many flat places and rows a flat file has
pub record Sizes : Type 0 where
  pub places : ℕ
  pub rows : ℕ

unfoldable pub flat_sizes : List ℕ → Outcome Sizes
flat_sizes s = on (read_flat s) refused λ f. accepted (record { places = length f.initial; rows = length f.rows })

-- the call that fires a list of images: flat file, marking, images, lent answers
unfoldable pub fire_images : List ℕ → List ℕ → List ℕ → List ℕ → FireCall
fire_images s m images answers = fire_call (λ f. fire_checks (length f.initial) 5 m images answers) fire_image (read_flat s) m (items 5 images) answers

-- the call for the first row that fires: flat file, marking
unfoldable pub first_row : List ℕ → List ℕ → Outcome (First ℕ)
first_row s m = first_call (λ f. marking_checks (length f.initial) m) (λ f. below (length f.rows)) fire_row (read_flat s) m
