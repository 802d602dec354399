-- What the calls' replies say, in the terms of the meanings: each case's number and values.
use Rattle.std.specs.Prelude.{Result}
use Rattle.reading.specs.Basics.{ℕ, List}
use Rattle.reading.specs.Reading.{Outcome}
use Rattle.reading.specs.Refusals.{replied}
use Rattle.reading.specs.declared.refusal.Refusal.{Refusal}
use Rattle.firing.specs.Firing.{First}
use Rattle.firing.specs.Calls.{FireCall}
use Rattle.firing.specs.Replies.{searched}
use Rattle.firing.specs.declared.replies.Searched.{Searched}
use Rattle.flat_file.specs.Flat.{Sizes}
use Rattle.flat_file.specs.declared.reader.FlatSizes.{FlatSizes}

abbrev pub fire_reply : Result ℕ Refusal → Outcome ℕ
fire_reply = replied λ count. count

-- with both lent lists afterwards
abbrev pub fire_called : Result ℕ Refusal → List ℕ → List ℕ → FireCall
fire_called r marking answers = record { result = fire_reply r; marking = marking; answers = answers }

abbrev pub first_reply : Result (Searched ℕ) Refusal → Outcome (First ℕ)
first_reply = replied (searched λ row. row)

abbrev pub sizes_reply : Result FlatSizes Refusal → Outcome Sizes
sizes_reply = replied λ sizes. record { places = sizes.places; rows = sizes.rows }
