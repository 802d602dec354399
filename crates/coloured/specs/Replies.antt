-- What the call's reply says, in the terms of the meanings: each case's number and values.
use Rattle.std.specs.Prelude.{Result}
use Rattle.reading.specs.Basics.{ℕ, List}
use Rattle.reading.specs.Reading.{Outcome}
use Rattle.reading.specs.Refusals.{replied}
use Rattle.reading.specs.declared.refusal.Refusal.{Refusal}
use Rattle.firing.specs.Calls.{FireCall}

abbrev pub fire_reply : Result ℕ Refusal → Outcome ℕ
fire_reply r = replied (λ count. count) r

-- with both lent lists afterwards
abbrev pub fire_called : Result ℕ Refusal → List ℕ → List ℕ → FireCall
fire_called r marking answers = record { result = fire_reply r; marking = marking; answers = answers }
