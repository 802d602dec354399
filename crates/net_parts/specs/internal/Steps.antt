-- What the steps and parts of the reading say, in the terms of the meanings.
use Rattle.std.specs.Prelude.{◌≡◌, ◌<◌, ◌≤◌, ◌+◌, ◌&&◌, ◌∷◌, if◌then◌else◌, Result, Ok, Err}
use Rattle.std.specs.Prelude as std
use Rattle.reading.specs.Basics.{ℕ, List, [], Option, none, some, length, leb, ltb, eqb, every, take, with, byte_at}
use Rattle.reading.specs.Reading as reading
use Rattle.reading.specs.Reading.{Answer, fine, fault, ◌unless◌, command, standing}
use Rattle.reading.specs.Refusals.{number_of, answered}
use Rattle.reading.specs.declared.refusal.Refusal.{Refusal}
use Rattle.net.specs.Net.{Place, sets_of, colours_of, scope}
use Rattle.net.specs.internal.ReaderEnums.{place_in}
use Rattle.net.specs.declared.PlaceSets.{PlaceSets}
use Rattle.net.specs.declared.PlaceSets.TheVariants as place_sets
use Rattle.net_parts.specs.declared.Part.{Part}
use Rattle.net_parts.specs.declared.place.PlaceRead.{PlaceRead}

-- a step of a part: none where the part ends, else what is made of its value and the next place, or the fault
abbrev pub stepped : {V A : Type 0} → (V → A) → (V → ℕ) → Result (std.Option V) Refusal → Option (Answer A)
stepped f next (Ok std.None) = none
stepped f next (Ok (std.Some value)) = some (fine (f value) (next value))
stepped f next (Err r) = some (fault (number_of r.reason) r.place)

-- a step from a place that goes on keeps to a fact, and one that finds a fault stands in a file so long
abbrev pub Keeps : {V : Type 0} → (V → Type 0) → ℕ → ℕ → Result (std.Option V) Refusal → Type 0
Keeps fact len at (Ok std.None) = Unit {0}
Keeps fact len at (Ok (std.Some value)) = fact value
Keeps fact len at (Err r) = at < len

-- ---- sets and variables
-- a part of one command with a byte: at least low and below end (5), and at most so many (4)
abbrev pub list_part : ℕ → ℕ → ℕ → ℕ → List ℕ → reading.Part (List ℕ)
list_part byte low end limit s l at =
    let value = byte_at s (at + 1) in
    standing s (command byte 1 ((5 unless (leb low value && ltb value end)) ∷ (4 unless ltb (length l) limit) ∷ []) (fine (with l value)) ∷ []) at

-- a step of it, from a list and a place; one that goes on has room in the file and among so many
abbrev pub list_step : List ℕ → ℕ → Result (std.Option ℕ) Refusal → Option (Answer (List ℕ))
list_step l at r = stepped (λ value. with l value) (λ value. at + 2) r

abbrev pub ListRoom : ℕ → ℕ → ℕ → ℕ → Result (std.Option ℕ) Refusal → Type 0
ListRoom limit len count at r = Keeps (λ value. (count < limit) × (at + 2 ≤ len)) len at r

-- the sets are the front of the lent list
abbrev pub sets_read : List ℕ → Result Part Refusal → Answer (List ℕ)
sets_read sizes r = answered (λ p. take p.count sizes) (λ p. p.next) r

-- at most so many, with nothing to add up
abbrev pub Few : ℕ → Result Part Refusal → Type 0
Few limit (Ok p) = (p.count ≤ limit) × (p.total ≡ 0)
Few limit (Err r) = Unit {0}

-- ---- places
-- the sets that the place command at a place names; none where no such command stands
unfoldable pub sets_named : List ℕ → ℕ → std.Option PlaceSets
sets_named s at =
    if eqb (byte_at s at) 0x12 then std.Some (place_sets.One (byte_at s (at + 1)))
    else if eqb (byte_at s at) 0x13 then std.Some (place_sets.Two (byte_at s (at + 1)) (byte_at s (at + 2)))
    else std.None

-- how many colours a place has, by the sizes of the sets; none where one of its sets is not there
unfoldable pub colours_counted : List ℕ → PlaceSets → std.Option ℕ
colours_counted sets p =
    if every (λ set. ltb set (length sets)) (sets_of (place_in p)) then std.Some (colours_of (scope sets [] []) (place_in p)) else std.None

-- a step of the place part
abbrev pub place_step : List Place → Result (std.Option PlaceRead) Refusal → Option (Answer (List Place))
place_step places r = stepped (λ p. with places (place_in p.sets)) (λ p. p.next) r
