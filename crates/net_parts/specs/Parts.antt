-- Reading the sets, variables, places and tokens of a net file.
use Rattle.std.specs.Prelude.{◌+◌, ◌&&◌, ◌∷◌}
use Rattle.reading.specs.Basics.{ℕ, List, [], map, length, ltb, leb, absent, with, every, sum, byte_at, word_at}
use Rattle.reading.specs.Reading.{fine, ◌unless◌, Command, standing, Part}
use Rattle.net.specs.Net.{Place, single, pair, Tokens, Net, sets_of, colours_of, place_at, tokens_on}
use Rattle.net.specs.Reader.{command}

-- n holds what the parts before have read
-- 0x10 set: size 1 to 64; at most 16
unfoldable pub set_part : List ℕ → Part (List ℕ)
set_part s sets at =
    let size = byte_at s (at + 1) in
    standing s (command 0x10 ((5 unless (leb 1 size && leb size 64)) ∷ (4 unless ltb (length sets) 16) ∷ []) (fine (with sets size)) ∷ []) at

-- 0x11 variable: its set; at most 32
unfoldable pub variable_part : List ℕ → Net → Part (List ℕ)
variable_part s n variables at =
    let set = byte_at s (at + 1) in
    standing s (command 0x11 ((5 unless ltb set (length n.sets)) ∷ (4 unless ltb (length variables) 32) ∷ []) (fine (with variables set)) ∷ []) at

-- 0x12 and 0x13 place: its set or sets; at most 32, with at most 4,096 colours together
abbrev pub place_command : Net → List Place → ℕ → Place → Command (List Place)
place_command n places byte p =
    command byte
    ((5 unless every (λ set. ltb set (length n.sets)) (sets_of p))
    ∷ (4 unless (ltb (length places) 32 && leb (sum (map (colours_of n) (with places p))) 4096)) ∷ [])
    (fine (with places p))

unfoldable pub place_part : List ℕ → Net → Part (List Place)
place_part s n places at =
    let first = byte_at s (at + 1) in
    let second = byte_at s (at + 2) in
    standing s (place_command n places 0x12 (single first) ∷ place_command n places 0x13 (pair first second) ∷ []) at

-- 0x19 tokens: place and rank (5), once each (9), and count
unfoldable pub tokens_part : List ℕ → Net → Part (List Tokens)
tokens_part s n tokens at =
    let p = byte_at s (at + 1) in
    let rank = word_at s (at + 2) in
    standing s (command 0x19
    ((5 unless (ltb p (length n.places) && ltb rank (colours_of n (place_at n p))))
    ∷ (9 unless absent (tokens_on tokens p rank)) ∷ [])
    (fine (with tokens (record { place = p; rank = rank; count = word_at s (at + 4) }))) ∷ []) at
