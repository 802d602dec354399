-- The two-gauge net, its file and its net as one would write it down.
use Rattle.std.specs.Prelude.{◌∷◌}
use Rattle.reading.specs.Basics.{ℕ, List, []}
use Rattle.net.specs.Net.{variable, successor, always, one, single, Net, net}

abbrev pub two_gauges : List ℕ
two_gauges =
    0x01 ∷ 0x01 ∷ 0x10 ∷ 0x02 ∷ 0x11 ∷ 0x00 ∷ 0x12 ∷ 0x00 ∷ 0x12 ∷ 0x00 ∷ 0x14 ∷ 0x16 ∷ 0x00 ∷ 0x40 ∷ 0x01 ∷ 0x00 ∷ 0x30 ∷ 0x00 ∷ 0x17 ∷ 0x01
    ∷ 0x40 ∷ 0x01 ∷ 0x00 ∷ 0x32 ∷ 0x30 ∷ 0x00 ∷ 0x18 ∷ 0x01 ∷ 0x40 ∷ 0x02 ∷ 0x00 ∷ 0x30 ∷ 0x00 ∷ 0x19 ∷ 0x00 ∷ 0x00 ∷ 0x00 ∷ 0x03 ∷ 0x00 ∷ 0x1F ∷ []

-- a set of two colours and a variable of it; two places of it; a transition that takes one v from the first, puts one
-- successor of v into the second, and is hindered by two v there; three tokens of colour 0 in the first
abbrev pub two_gauges_net : Net
two_gauges_net =
    net (2 ∷ []) (0 ∷ []) (single 0 ∷ single 0 ∷ [])
    (record {
      guard = always;
      arcs = record { kind = 0x16; place = 0; expression = one 1 (variable 0) }
          ∷ record { kind = 0x17; place = 1; expression = one 1 (successor (variable 0)) }
          ∷ record { kind = 0x18; place = 1; expression = one 2 (variable 0) } ∷ [];
    } ∷ [])
    (record { place = 0; rank = 0; count = 3 } ∷ [])
