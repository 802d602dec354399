-- The rows of a flat file that was read: where the arcs of each start.
use Rattle.std.specs.Prelude.{◌≡◌, ◌<◌}
use Rattle.reading.specs.Basics.{ℕ, Bool, true, false, List, length, get_or}
use Rattle.reading.specs.Reading.{Answer, fine, fault}
use Rattle.flat_file.specs.internal.ReaderEnums.{arcs_at}

abbrev pub is_fine : {A : Type 0} → Answer A → Bool
is_fine (fine value next) = true
is_fine (fault number place) = false

-- each start has a row's arcs, over so many flat places
abbrev pub AllStand : List ℕ → ℕ → List ℕ → Type 0
AllStand s places starts = (i : ℕ) → i < length starts → is_fine (arcs_at s places (get_or starts i 0)) ≡ true
