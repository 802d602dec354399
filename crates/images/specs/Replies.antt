-- What the calls' replies say, in the terms of the meanings.
use Rattle.std.specs.Prelude.{Result}
use Rattle.std.specs.Prelude as reply
use Rattle.reading.specs.Basics.{ℕ, List, Option, none, some}
use Rattle.reading.specs.Reading.{Outcome}
use Rattle.reading.specs.Refusals.{replied}
use Rattle.reading.specs.declared.refusal.Refusal.{Refusal}
use Rattle.row_numbers.specs.Unfolding.{WriteCall}
use Rattle.bindings.specs.Replies.{bytes_of}
use Rattle.bindings.specs.declared.order.Order.{Order}

abbrev pub images_reply : Result ℕ Refusal → Outcome ℕ
images_reply r = replied (λ count. count) r

-- with the lent list afterwards
abbrev pub images_called : Result ℕ Refusal → List ℕ → WriteCall
images_called r out = record { result = images_reply r; out = out }

-- an order as its bytes, if there is one
abbrev pub bytes_if : reply.Option Order → Option (List ℕ)
bytes_if (reply.Some order) = some (bytes_of order)
bytes_if reply.None = none

abbrev pub order_reply : Result (reply.Option Order) Refusal → Outcome (Option (List ℕ))
order_reply r = replied bytes_if r
