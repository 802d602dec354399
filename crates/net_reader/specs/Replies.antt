-- What the replies say, in the terms of the meanings: each case's number and values.
use Rattle.std.specs.Prelude.{Result}
use Rattle.reading.specs.Basics.{ℕ}
use Rattle.reading.specs.Reading.{Answer, Outcome}
use Rattle.reading.specs.Refusals.{replied, answered}
use Rattle.reading.specs.declared.refusal.Refusal.{Refusal}
use Rattle.net_reader.specs.Sizes.{NetSizes}
use Rattle.net_reader.specs.declared.head.Head.{Head}
use Rattle.net_reader.specs.declared.sizes.NetSizes as declared

-- the sizes of a net
abbrev pub net_reply : Result declared.NetSizes Refusal → Outcome NetSizes
net_reply r = replied (λ n. record { places = n.places; transitions = n.transitions; bindings = n.bindings }) r

-- the command that stands at a place
abbrev pub head_told : Result Head Refusal → Answer ℕ
head_told r = answered (λ h. h.byte) (λ h. h.next) r
