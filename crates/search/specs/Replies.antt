-- What the call's reply says, in the terms of the meanings: each case's number and values.
use Rattle.std.specs.Prelude.{Result}
use Rattle.reading.specs.Basics.{ℕ, List}
use Rattle.reading.specs.Reading.{Outcome}
use Rattle.reading.specs.Refusals.{replied}
use Rattle.reading.specs.declared.refusal.Refusal.{Refusal}
use Rattle.firing.specs.Firing.{First}
use Rattle.firing.specs.Replies.{searched}
use Rattle.firing.specs.declared.replies.Searched.{Searched}
use Rattle.bindings.specs.Replies.{bytes_of}
use Rattle.bindings.specs.declared.order.Order.{Order}

abbrev pub first_reply : Result (Searched Order) Refusal → Outcome (First (List ℕ))
first_reply r = replied (searched bytes_of) r
