-- The packed table of arcs: of each row of 32 slots, one a place, only those that hold an arc, by rising place.
use Rattle.std.specs.Prelude.{◌≡◌, ◌≤◌, ◌<◌, ◌+◌, ◌-◌, ◌*◌, ◌%◌, ◌∷◌, ◌++◌, if◌then◌else◌}
use Rattle.reading.specs.Basics.{ℕ, Bool, List, [], map, flat_map, length, get_or, take, ltb, below}
use Rattle.net.specs.internal.ReaderEnums.{place_in}
use Rattle.net.specs.declared.PlaceSets.{PlaceSets}
use Rattle.net.specs.declared.PlaceSets.TheVariants.{One}
use Rattle.evaluation.specs.internal.Evaluated.{is_pair}

-- what a place is like: where its flat places begin, how many ranks it has, and whether it is a pair
abbrev pub shape_of : ℕ → ℕ → Bool → ℕ
shape_of start count paired = start * 16384 + count * 2 + (if paired then 1 else 0)

-- from the tables of sets and of starts; each number is kept below 8,192
abbrev pub shape_in : List PlaceSets → List ℕ → ℕ → ℕ
shape_in kinds starts p = shape_of (get_or starts p 0 % 8192) ((get_or starts (p + 1) 0 - get_or starts p 0) % 8192) (is_pair (place_in (get_or kinds p (One 0))))

-- an entry: so many times where the arc's expression stands, and what it tells of the place. In the table that is the place's number, below 32; an arc that is read is
-- told together with what its place is like, below 134,217,728
abbrev pub entry_of : ℕ → ℕ → ℕ → ℕ
entry_of wide slot shape = slot * wide + shape

-- what a slot gives, nothing where it is 0
abbrev pub if_held : ℕ → ℕ → List ℕ
if_held slot value = if ltb 0 slot then value ∷ [] else []

-- the places below a number whose slots hold an arc, in the row of slots from base on; and their entries
abbrev pub holding : List ℕ → ℕ → ℕ → List ℕ
holding slots base places = flat_map (λ p. if_held (get_or slots (base + p) 0) p) (below places)

abbrev pub entries_of : ℕ → (ℕ → ℕ) → List ℕ → ℕ → ℕ → List ℕ
entries_of wide shape slots base places = map (λ p. entry_of wide (get_or slots (base + p) 0) (shape p)) (holding slots base places)

-- the slots of a row, and of all rows, are small enough for entries of 32 bits
abbrev pub RowFits : List ℕ → ℕ → ℕ → Type 0
RowFits slots places base = (p : ℕ) → p < places → get_or slots (base + p) 0 < 134217728

abbrev pub SlotsFit : List ℕ → ℕ → ℕ → Type 0
SlotsFit slots places transitions = (t k : ℕ) → t < transitions → k < 3 → RowFits slots places (t * 96 + k * 32)

-- the entry of a slot was put behind what stands before end, up to r; what stands behind it is kept
pub record EntryPut (slot shape : ℕ) (packed : List ℕ) (end : ℕ) (packed' : List ℕ) (r : ℕ) : Type 0 where
  pub is : take r packed' ≡ take end packed ++ if_held slot (entry_of 32 slot shape)
  pub next : r ≡ end + length (if_held slot (entry_of 32 slot shape))
  pub back : (j : ℕ) → end < j → get_or packed' j 0 ≡ get_or packed j 0

-- a row's entries stand one after the other from base on, a 0 behind them where there is room for 32
pub record RowPacked (wide : ℕ) (shape : ℕ → ℕ) (slots : List ℕ) (places base : ℕ) (packed : List ℕ) : Type 0 where
  pub entries : (i : ℕ) → i < 32 → i ≤ length (holding slots base places) → get_or packed (base + i) 0 ≡ get_or (entries_of wide shape slots base places) i 0

-- the rows of a table, three a transition
pub record Packed (wide : ℕ) (shape : ℕ → ℕ) (slots packed : List ℕ) (places transitions : ℕ) : Type 0 where
  pub row : (t k : ℕ) → t < transitions → k < 3 → RowPacked wide shape slots places (t * 96 + k * 32) packed
