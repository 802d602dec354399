-- An order as the replies carry it.
use Rattle.std.specs.Prelude.{◌∷◌}
use Rattle.reading.specs.Basics.{ℕ, List}
use Rattle.bindings.specs.declared.order.Order.{Order}

-- its bytes
abbrev pub bytes_of : Order → List ℕ
bytes_of o = 0x60 ∷ o.transition ∷ o.colours
