-- What the code's answers and searches say, in the terms of the meanings.
use Rattle.std.specs.Prelude.{Option, Some, None}
use Rattle.reading.specs.Basics.{ℕ}
use Rattle.firing.specs.Firing.{First, found, nothing}
use Rattle.firing.specs.declared.replies.Answer.{Answer}
use Rattle.firing.specs.declared.replies.Answer.TheVariants as answer
use Rattle.firing.specs.declared.replies.Searched.{Searched}

abbrev pub answer_number : Answer → ℕ
answer_number answer.Fired = 0
answer_number answer.NoBinding = 1
answer_number answer.NoRow = 2
answer_number answer.Lacking = 3
answer_number answer.Hindered = 4
answer_number answer.Spilling = 5

-- the first that a search found, or nothing, with how many were tried
abbrev pub first_told : {V A : Type 0} → (V → A) → Option V → ℕ → First A
first_told f (Some value) tried = found (f value) tried
first_told f None tried = nothing tried

abbrev pub searched : {V A : Type 0} → (V → A) → Searched V → First A
searched f s = first_told f s.found s.tried
