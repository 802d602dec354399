-- What the tables of a net hold of its places and tokens, that a reading leaves for later calls.
use Rattle.std.specs.Prelude.{◌≡◌, ◌<◌, ◌≤◌, ◌+◌, ◌&&◌, if◌then◌else◌, Result, Ok, Err}
use Rattle.std.specs.Prelude as std
use Rattle.reading.specs.Basics.{ℕ, List, [], Option, given, with, map, sum, length, get_or, take, ltb}
use Rattle.reading.specs.Reading.{Answer, fine, fault, whole}
use Rattle.reading.specs.Refusals.{number_of, answered}
use Rattle.reading.specs.declared.refusal.Refusal.{Refusal}
use Rattle.net.specs.Net.{Place, Tokens, Net, colours_of, place_at, tokens_on, scope}
use Rattle.net.specs.internal.ReaderEnums.{place_in}
use Rattle.net.specs.declared.PlaceSets.{PlaceSets}
use Rattle.net_parts.specs.Parts.{tokens_part}
use Rattle.net_parts.specs.internal.Steps.{stepped, Keeps}
use Rattle.net_parts.specs.declared.Part.{Part}
use Rattle.net_parts.specs.declared.place.PlaceRead.{PlaceRead}
use Rattle.net_parts.specs.declared.token.TokenRead.{TokenRead}

-- ---- places
-- the places of a list of their sets
unfoldable pub places_of : List PlaceSets → List Place
places_of kinds = map place_in kinds

-- the flat places before a place: where its own begin
abbrev pub start_of : Net → List Place → ℕ → ℕ
start_of n places p = sum (map (colours_of n) (take p places))

-- a step that goes on has room in the file and among the places, and its total is theirs
abbrev pub PlaceRoom : List ℕ → ℕ → ℕ → ℕ → ℕ → Result (std.Option PlaceRead) Refusal → Type 0
PlaceRoom sets len count total at r =
    Keeps (λ p. (count < 32) × (p.total ≤ 4096) × (p.total ≡ total + colours_of (scope sets [] []) (place_in p.sets)) × (at < p.next) × (p.next ≤ len)) len at r

-- the places are the front of the lent list
abbrev pub places_read : List PlaceSets → Result Part Refusal → Answer (List Place)
places_read kinds r = answered (λ p. places_of (take p.count kinds)) (λ p. p.next) r

-- so many places, with so many colours together; where the flat places of each begin, and after the last their number
pub record Started (n : Net) (places : List Place) (starts : List ℕ) (count total : ℕ) : Type 0 where
  pub few : count ≤ 32
  pub small : total ≤ 4096
  pub are : length places ≡ count
  pub all : sum (map (colours_of n) places) ≡ total
  pub begin : (p : ℕ) → p ≤ count → get_or starts p 0 ≡ start_of n places p

abbrev pub PlacesHeld : List ℕ → List PlaceSets → List ℕ → Result Part Refusal → Type 0
PlacesHeld sets kinds starts (Ok p) = Started (scope sets [] []) (places_of (take p.count kinds)) starts p.count p.total
PlacesHeld sets kinds starts (Err r) = Unit {0}

-- ---- tokens
-- each place's flat places begin no later than the next one's, and none past the total
pub record StartsRise (starts : List ℕ) (count total : ℕ) : Type 0 where
  pub sized : count < length starts
  pub small : total ≤ 4096
  pub rises : (p : ℕ) → p < count → get_or starts p 0 ≤ get_or starts (p + 1) 0
  pub bound : (p : ℕ) → p < count → get_or starts (p + 1) 0 ≤ total

-- the flat place of a rank of a place
abbrev pub flat_at : List ℕ → ℕ → ℕ → ℕ
flat_at starts p rank = get_or starts p 0 + rank

-- the count of tokens that may be there; whether they are, as 0 or 1
abbrev pub count_of : Option Tokens → ℕ
count_of o = given o 0 λ t. t.count

abbrev pub flag : Option Tokens → ℕ
flag o = given o 0 λ t. 1

-- a table over the flat places holds, as far as it reaches, what a test of the tokens gives at each rank of each place
abbrev pub Holds : Net → List Tokens → (Option Tokens → ℕ) → List ℕ → List ℕ → Type 0
Holds n tokens value starts table =
    (p rank : ℕ) → p < length n.places → rank < colours_of n (place_at n p) → flat_at starts p rank < length table → get_or table (flat_at starts p rank) 0 ≡ value (tokens_on tokens p rank)

-- the flat place of a rank of a place, by where those of so many begin; none where the place or the rank is not there
abbrev pub flat_found : List ℕ → ℕ → ℕ → ℕ → std.Option ℕ
flat_found starts count p rank =
    if ltb p count && ltb (flat_at starts p rank) (get_or starts (p + 1) 0) then std.Some (flat_at starts p rank) else std.None

-- a step of the tokens part
abbrev pub token_step : List Tokens → Result (std.Option TokenRead) Refusal → Option (Answer (List Tokens))
token_step tokens r = stepped (λ t. with tokens (record { place = t.place; rank = t.rank; count = t.count })) (λ t. t.next) r

-- one that goes on is at a flat place of its place that has no mark yet
abbrev pub TokenRoom : List ℕ → List ℕ → ℕ → ℕ → ℕ → Result (std.Option TokenRead) Refusal → Type 0
TokenRoom starts named len count at r =
    Keeps (λ t. (t.place < count) × (t.flat ≡ flat_at starts t.place t.rank) × (t.flat < get_or starts (t.place + 1) 0) × (at < t.next) × (t.next ≤ len) × (get_or named t.flat 0 ≡ 0) × (t.flat < 4096)) len at r

-- the tokens that were read: the table holds their counts
pub record TokensRead (s : List ℕ) (n : Net) (start : ℕ) (starts initial : List ℕ) (next : ℕ) : Type 0 where
  pub tokens : List Tokens
  pub read : fine tokens next ≡ whole s (tokens_part s n) [] start
  pub holds : Holds n tokens count_of starts initial

abbrev pub TokensTold : List ℕ → Net → ℕ → List ℕ → List ℕ → Result ℕ Refusal → Type 0
TokensTold s n start starts initial (Ok next) = TokensRead s n start starts initial next
TokensTold s n start starts initial (Err r) = fault (number_of r.reason) r.place ≡ whole s (tokens_part s n) [] start
