-- What the call's reply says, in the terms of the meanings.
use Rattle.std.specs.Prelude.{Result}
use Rattle.reading.specs.Basics.{ℕ, List}
use Rattle.reading.specs.Reading.{Outcome}
use Rattle.reading.specs.Refusals.{replied}
use Rattle.reading.specs.declared.refusal.Refusal.{Refusal}
use Rattle.row_numbers.specs.Unfolding.{WriteCall}

abbrev pub unfold_reply : Result ℕ Refusal → Outcome ℕ
unfold_reply r = replied (λ length. length) r

-- with the lent list afterwards
abbrev pub unfold_called : Result ℕ Refusal → List ℕ → WriteCall
unfold_called r out = record { result = unfold_reply r; out = out }
