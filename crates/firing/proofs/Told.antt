-- Whether an answer is 0, as the code asks it. Assumes nothing.
use mathlib.Core.Path.{◌≡◌, refl}
use denote.Enum.Bare.{sameb}
use Rattle.reading.specs.Basics.{eqb}
use Rattle.firing.specs.contracts.replies.Answer.{the_type}
use Rattle.firing.specs.declared.replies.Answer.{Answer}
use Rattle.firing.specs.declared.replies.Answer.TheVariants.{Fired, NoBinding, NoRow, Lacking, Hindered, Spilling}
use Rattle.firing.specs.Replies.{answer_number}

pub fired_told : (a : Answer) → sameb the_type a Fired ≡ eqb (answer_number a) 0
fired_told Fired = refl
fired_told NoBinding = refl
fired_told NoRow = refl
fired_told Lacking = refl
fired_told Hindered = refl
fired_told Spilling = refl
