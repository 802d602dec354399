-- What the reader's kinds and Results say, in the terms of the meanings.
use Rattle.std.specs.Prelude.{◌≡◌, ◌⊎◌, ◌<◌, ◌≤◌, ◌/◌, min, ◌+◌, ◌-◌, ◌*◌, ◌&&◌, ◌∷◌, Option, Some, None, Result, Ok, Err}
use Rattle.reading.specs.Basics.{ℕ, Bool, true, List, [], none, some, length, get_or, leb, eqb, with, any, byte_at, word_at}
use Rattle.reading.specs.Basics as math
use Rattle.reading.specs.Reading.{Answer, fine, fault, accepted, refused, ◌unless◌, command, standing, whole}
use Rattle.reading.specs.Refusals.{number_of}
use Rattle.reading.specs.declared.refusal.Refusal.{Refusal}
use Rattle.firing.specs.declared.Arc.{Arc}
use Rattle.firing.specs.Arcs.{Row, row}
use Rattle.flat_file.specs.Flat.{Flat, rise, place_part, arc_part, row_part, read_flat}
use Rattle.firing.specs.declared.Ends.{Ends}
use Rattle.firing.specs.declared.kind.Kind.{Kind}
use Rattle.firing.specs.declared.kind.Kind.TheVariants.{Take, Put, Hinder}
use Rattle.firing.specs.internal.Kinds.{kind_number}
use Rattle.flat_file.specs.declared.reader.ArcRead.{ArcRead}
use Rattle.flat_file.specs.declared.reader.Part.{Part}
use Rattle.flat_file.specs.declared.reader.FlatSizes.{FlatSizes}

-- ---- one arc
-- a kind's command byte
abbrev pub kind_byte : Kind → ℕ
kind_byte kind = 0x52 + kind_number kind

-- an arc's command byte stands at a place, or another
abbrev pub ArcHere : List ℕ → ℕ → Option Kind → Type 0
ArcHere s at (Some kind) = (at < length s) × (byte_at s at ≡ kind_byte kind)
ArcHere s at None = (byte_at s at < 0x52) ⊎ (0x54 < byte_at s at)

-- an arc of a kind at a place keeps a row's order
abbrev pub in_order : Kind → Row → ℕ → Bool
in_order Take r p = rise r.takes p && eqb (length r.puts) 0 && eqb (length r.hinders) 0
in_order Put r p = rise r.puts p && eqb (length r.hinders) 0
in_order Hinder r p = rise r.hinders p

-- a row with one more arc of a kind
abbrev pub added : Kind → Row → Arc → Row
added Take r a = row (with r.takes a) r.puts r.hinders
added Put r a = row r.takes (with r.puts a) r.hinders
added Hinder r a = row r.takes r.puts (with r.hinders a)

-- an arc's key: kinds in turn, and places in each
abbrev pub key : Kind → ℕ → ℕ
key kind p = kind_number kind * 65536 + p

-- the least key with which an arc keeps a row's order
abbrev pub Least : Row → ℕ → Type 0
Least r least = (kind : Kind) (p : ℕ) → p < 65536 → in_order kind r p ≡ leb least (key kind p)

-- the arc that stands behind a command byte
abbrev pub arc_there : List ℕ → ℕ → Arc
arc_there s at = record { place = word_at s (at + 1); weight = word_at s (at + 3) }

-- a step from a row, with the place after the arc
abbrev pub arc_step : ℕ → Row → Result (Option ArcRead) Refusal → math.Option (Answer Row)
arc_step next r (Ok None) = none
arc_step next r (Ok (Some read)) = some (fine (added read.kind r read.arc) next)
arc_step next r (Err e) = some (fault (number_of e.reason) e.place)

-- what the checks of an arc have shown
abbrev pub Checked : ℕ → ℕ → ℕ → ℕ → ArcRead → Type 0
Checked len count at least read = (read.arc.place < count) × (0 < read.arc.weight) × (least ≤ key read.kind read.arc.place) × (at + 5 ≤ len)

-- what the checks of a step have shown
abbrev pub ArcRoom : ℕ → ℕ → ℕ → ℕ → Result (Option ArcRead) Refusal → Type 0
ArcRoom len count at least (Ok None) = Unit {0}
ArcRoom len count at least (Ok (Some read)) = Checked len count at least read
ArcRoom len count at least (Err e) = at < len

-- ---- room in the lent lists
-- the most rows in a file of so many bytes, and the most arcs in one of its rows
abbrev pub most_rows : ℕ → ℕ
most_rows len = min 65536 len

abbrev pub most_arcs : ℕ → ℕ
most_arcs len = min 12288 (len / 5)

-- ---- a row's arcs
-- the arcs that stand from a place on, over so many flat places
abbrev pub arcs_at : List ℕ → ℕ → ℕ → Answer Row
arcs_at s places at = whole s (arc_part s places) (row [] [] []) at

-- they end at a place not before the first of them, at most 12,288 arcs behind it, and within the file where that does; or have a fault
abbrev pub ArcsPassed : List ℕ → ℕ → ℕ → Result ℕ Refusal → Type 0
ArcsPassed s n at (Ok next) = ((r : Row) × (fine r next ≡ arcs_at s n at)) × (at ≤ next) × (next ≤ at + 61440) × (at ≤ length s → next ≤ length s)
ArcsPassed s n at (Err e) = fault (number_of e.reason) e.place ≡ arcs_at s n at

-- over at most 4,096 flat places they have no fault
pub record ArcsStand (s : List ℕ) (at : ℕ) : Type 0 where
  pub places : ℕ
  pub few : places ≤ 4096
  pub arcs : Row
  pub next : ℕ
  pub is : arcs_at s places at ≡ fine arcs next

-- so many rows' arcs stand where a list says
abbrev pub RowsStand : List ℕ → List ℕ → ℕ → Type 0
RowsStand s starts rows = (i : ℕ) → i < rows → ArcsStand s (get_or starts i 0)

-- where the kinds end after one more arc of some kind
abbrev pub later_ends : Kind → Ends → Ends
later_ends Take was = record { takes = was.hinders + 1; puts = was.hinders + 1; hinders = was.hinders + 1 }
later_ends Put was = record { takes = was.takes; puts = was.hinders + 1; hinders = was.hinders + 1 }
later_ends Hinder was = record { takes = was.takes; puts = was.puts; hinders = was.hinders + 1 }

-- ---- the places and the rows
-- a step at a command of a width, where there is room for it
abbrev pub step_of : List ℕ → ℕ → ℕ → Bool → ℕ → math.Option (Answer ℕ)
step_of s byte width room at = standing s (command byte (width - 1) ((4 unless room) ∷ []) (λ next. fine next next) ∷ []) at

-- a step goes on behind the command with an answer
abbrev pub step_told : {A : Type 0} → (ℕ → Answer A) → Result (Option ℕ) Refusal → math.Option (Answer A)
step_told go (Ok None) = none
step_told go (Ok (Some next)) = some (go next)
step_told go (Err e) = some (fault (number_of e.reason) e.place)

-- a step that goes on has room, and so many bytes in the file
abbrev pub StepRoom : Bool → ℕ → ℕ → ℕ → Result (Option ℕ) Refusal → Type 0
StepRoom room width len at (Ok None) = Unit {0}
StepRoom room width len at (Ok (Some next)) = (room ≡ true) × (next ≡ at + width) × (next ≤ len)
StepRoom room width len at (Err e) = at < len

-- so many flat places stand from a place to another
pub record PlacesHeld (s : List ℕ) (start count next : ℕ) : Type 0 where
  pub initial : List ℕ
  pub sized : length initial ≡ count
  pub few : count ≤ 4096
  pub near : next ≤ start + 12288
  pub within : next ≤ length s
  pub is : fine initial next ≡ whole s (place_part s) [] start

abbrev pub PlacesRead : List ℕ → ℕ → Result Part Refusal → Type 0
PlacesRead s start (Ok p) = PlacesHeld s start p.count p.next
PlacesRead s start (Err e) = fault (number_of e.reason) e.place ≡ whole s (place_part s) [] start

-- where a row's arcs start, as far as the list of starts reaches, the row can be read again
abbrev pub RowsReadable : List ℕ → ℕ → List ℕ → List Row → Type 0
RowsReadable s places starts rows =
    (i : ℕ) → i < length rows → i < length starts → (next : ℕ) × (arcs_at s places (get_or starts i 0) ≡ fine (get_or rows i (row [] [] [])) next)

-- so many rows stand from a place to another, over so many flat places
pub record RowsHeld (s : List ℕ) (places start : ℕ) (starts : List ℕ) (count next : ℕ) : Type 0 where
  pub rows : List Row
  pub sized : length rows ≡ count
  pub fits : count ≤ most_rows (length s)
  pub is : fine rows next ≡ whole s (row_part s places) [] start
  pub stands : RowsReadable s places starts rows

abbrev pub RowsRead : List ℕ → ℕ → ℕ → List ℕ → Result Part Refusal → Type 0
RowsRead s n start starts (Ok p) = RowsHeld s n start starts p.count p.next
RowsRead s n start starts (Err e) = fault (number_of e.reason) e.place ≡ whole s (row_part s n) [] start

-- ---- the whole file
-- a flat file's net of so many flat places and rows, with the start of each row's arcs as far as the list of starts reaches
pub record FlatHeld (s starts : List ℕ) (places rows : ℕ) (f : Flat) : Type 0 where
  pub is : read_flat s ≡ accepted f
  pub places_are : length f.initial ≡ places
  pub rows_are : length f.rows ≡ rows
  pub few_places : places ≤ 4096
  pub fits : rows ≤ most_rows (length s)
  pub stands : (i : ℕ) → i < rows → i < length starts → (next : ℕ) × (arcs_at s places (get_or starts i 0) ≡ fine (get_or f.rows i (row [] [] [])) next)

abbrev pub Scanned : List ℕ → List ℕ → Result FlatSizes Refusal → Type 0
Scanned s starts (Ok sizes) = (f : Flat) × FlatHeld s starts sizes.places sizes.rows f
Scanned s starts (Err e) = read_flat s ≡ refused (number_of e.reason) e.place
