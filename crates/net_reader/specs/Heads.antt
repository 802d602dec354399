-- The command of a net file that stands at a place.
use Rattle.std.specs.Prelude.{◌∷◌}
use Rattle.reading.specs.Basics.{ℕ, List, [], given, byte_at}
use Rattle.reading.specs.Reading.{Answer, fine, fault, command, needed}
use Rattle.net.specs.Reader.{width_of}

-- its byte, and the place after its operands; a byte that is no command is stray (3), and where the file ends there or within the operands it is cut off (2)
unfoldable pub head_at : List ℕ → ℕ → Answer ℕ
head_at s at =
    let byte = byte_at s at in
    needed s (given (width_of byte) [] λ width. command byte width [] (fine byte) ∷ []) at

-- the place after what stands there; at a fault a reader stays where it is
abbrev pub place_after : ℕ → Answer ℕ → ℕ
place_after at (fine byte next) = next
place_after at (fault number place) = at

abbrev pub next_place : List ℕ → ℕ → ℕ
next_place s at = place_after at (head_at s at)
