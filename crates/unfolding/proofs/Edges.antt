-- The other edges of document 01, and some fine points, from the meanings by computation.
use Rattle.std.specs.Prelude.{◌∷◌, ◌++◌}
use mathlib.Core.Path.{refl}
use Rattle.reading.specs.Basics.{ℕ, zero, suc, List, [], replicate}
use Rattle.unfolding.specs.Cases.{Case, unfolds, fires, order, spans, refuses, AllHold, meanings}

-- edition 1, and the end
abbrev file₁ : List ℕ → List ℕ
file₁ parts = 0x01 ∷ 1 ∷ parts ++ (0x1F ∷ [])

-- the empty flat file
abbrev nothing_flat : List ℕ
nothing_flat = 0x02 ∷ 1 ∷ 0x5F ∷ []

-- three variables of 64, 64 and so many colours, and a guard with all of them
abbrev wide : ℕ → List ℕ
wide last =
    file₁ (0x10 ∷ 64 ∷ 0x10 ∷ last ∷ 0x11 ∷ 0 ∷ 0x11 ∷ 0 ∷ 0x11 ∷ 1 ∷ 0x14 ∷ 0x15 ∷ 0x22 ∷ 0x24 ∷ 0x30 ∷ 0 ∷ 0x30 ∷ 1 ∷ 0x24 ∷ 0x30 ∷ 2 ∷ 0x30 ∷ 2 ∷ [])

-- an input arc of so many times so many
abbrev scaled : List ℕ → List ℕ → List ℕ
scaled factor count = file₁ ((0x10 ∷ 1 ∷ 0x12 ∷ 0 ∷ 0x14 ∷ 0x16 ∷ 0 ∷ 0x44 ∷ []) ++ factor ++ (0x41 ∷ []) ++ count)

-- so many sets of one colour
abbrev sets : ℕ → List ℕ
sets zero = []
sets (suc n) = 0x10 ∷ 1 ∷ sets n

-- a guard of so many levels
abbrev nested : ℕ → List ℕ
nested nots = file₁ ((0x14 ∷ 0x15 ∷ []) ++ replicate nots 0x21 ++ (0x20 ∷ []))

-- a transition whose guard has five variables, and no end
abbrev five : List ℕ
five =
    0x01 ∷ 1 ∷ 0x10 ∷ 2 ∷ 0x11 ∷ 0 ∷ 0x11 ∷ 0 ∷ 0x11 ∷ 0 ∷ 0x11 ∷ 0 ∷ 0x11 ∷ 0 ∷ 0x14 ∷ 0x15 ∷ 0x22 ∷ 0x24 ∷ 0x30 ∷ 0 ∷ 0x30 ∷ 1
    ∷ 0x22 ∷ 0x24 ∷ 0x30 ∷ 2 ∷ 0x30 ∷ 3 ∷ 0x24 ∷ 0x30 ∷ 4 ∷ 0x30 ∷ 4 ∷ []

-- one flat place, from which a transition takes 1 and puts 1 back
abbrev around : List ℕ
around = file₁ (0x10 ∷ 1 ∷ 0x12 ∷ 0 ∷ 0x14 ∷ 0x16 ∷ 0 ∷ 0x41 ∷ 1 ∷ 0 ∷ 0x17 ∷ 0 ∷ 0x41 ∷ 1 ∷ 0 ∷ [])

abbrev edges : List Case
edges =
    unfolds (file₁ (0x10 ∷ 64 ∷ [])) nothing_flat
    ∷ refuses (file₁ (0x10 ∷ 65 ∷ [])) 5 2
    ∷ unfolds (scaled (0xFF ∷ 0xFF ∷ []) (1 ∷ 0 ∷ [])) (0x02 ∷ 1 ∷ 0x50 ∷ 0 ∷ 0 ∷ 0x51 ∷ 0x52 ∷ 0 ∷ 0 ∷ 0xFF ∷ 0xFF ∷ 0x5F ∷ [])
    ∷ refuses (scaled (0 ∷ 1 ∷ []) (0 ∷ 1 ∷ [])) 8 9
    ∷ spans (wide 16) 65536
    ∷ refuses (wide 17) 11 12
    ∷ refuses [] 2 0
    ∷ unfolds (nested 15) nothing_flat
    ∷ refuses (nested 16) 7 20
    -- a second 0x15, a second end
    ∷ refuses (file₁ (0x14 ∷ 0x15 ∷ 0x20 ∷ 0x15 ∷ 0x20 ∷ [])) 3 5
    ∷ refuses (file₁ (0x1F ∷ [])) 15 3
    -- a 17th set of size 65: 5 before 4; tokens in a net without places; set cut off
    ∷ refuses (file₁ (sets 16 ++ (0x10 ∷ 65 ∷ []))) 5 34
    ∷ refuses (file₁ (sets 17)) 4 34
    ∷ refuses (file₁ (0x19 ∷ 0 ∷ 0 ∷ 0 ∷ 1 ∷ 0 ∷ [])) 5 2
    ∷ refuses (0x01 ∷ 1 ∷ 0x10 ∷ []) 2 3
    -- five variables, then the file ends where an arc could open: 10 before 2; cut inside an arc: 2
    ∷ refuses five 10 14
    ∷ refuses (five ++ (0x16 ∷ [])) 2 34
    -- 0x15 does not end a transition: 3 with no 10 first
    ∷ refuses (five ++ (0x15 ∷ [])) 3 33
    -- puts do not help takes; 65,535 - 1 + 1 fires
    ∷ fires around (0 ∷ []) (order 0) (3 ∷ []) (0 ∷ [])
    ∷ fires around (65535 ∷ []) (order 0) (0 ∷ []) (65535 ∷ [])
    ∷ []

edges_hold : AllHold edges
unfolding meanings
edges_hold = (refl, (refl, (refl, (refl, (refl, (refl, (refl, (refl, (refl, (refl, (refl, (refl, (refl, (refl, (refl, (refl, (refl, (refl, (refl, (refl, tt))))))))))))))))))))
