-- Commands of the two-gauge file, one after the other, and the three faults.
use Rattle.std.specs.Prelude.{◌∷◌}
use mathlib.Core.Path.{◌≡◌, refl}
use Rattle.reading.specs.Basics.{ℕ, zero, suc, List, [], map, take, any, find}
use Rattle.reading.specs.Reading.{fine, fault, failing, obey, standing, needed}
use Rattle.net.specs.Reader.{width_of}
use Rattle.net_reader.specs.Heads.{head_at, next_place}
use Rattle.net_file.specs.Examples.{two_gauges}

-- where a reader stands that moves so many times
abbrev stands : ℕ → ℕ → List ℕ
stands zero at = at ∷ []
stands (suc moves) at = at ∷ stands moves (next_place two_gauges at)

pub commands_in_turn : stands 19 0 ≡ 0 ∷ 2 ∷ 4 ∷ 6 ∷ 8 ∷ 10 ∷ 11 ∷ 13 ∷ 16 ∷ 18 ∷ 20 ∷ 23 ∷ 24 ∷ 26 ∷ 28 ∷ 31 ∷ 33 ∷ 39 ∷ 40 ∷ 40 ∷ []
unfolding any find failing obey standing needed width_of head_at
commands_in_turn = refl

-- the opening command, the tokens, a byte that is no command, the file's end
pub heads : map (head_at two_gauges) (0 ∷ 33 ∷ 3 ∷ 40 ∷ []) ≡ fine 0x01 2 ∷ fine 0x19 39 ∷ fault 3 3 ∷ fault 2 40 ∷ []
unfolding any find failing obey standing needed width_of head_at
heads = refl

-- operands cut off, and no bytes at all
pub cut : head_at (take 35 two_gauges) 33 ≡ fault 2 35
unfolding any find failing obey standing needed width_of head_at
cut = refl

pub no_bytes : head_at [] 0 ≡ fault 2 0
unfolding any find failing obey standing needed width_of head_at
no_bytes = refl
