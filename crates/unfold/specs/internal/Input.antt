-- What reading an input may give. Of standard input no bytes are known, so of those no contract says which come.
use Rattle.std.specs.Prelude.{◌≤◌, ◌<◌, take, Option, Result, Ok, Err}
use Rattle.std.specs.Io.KnownBytes.{Consumes, IsAtEnd}
use Rattle.reading.specs.Basics.{ℕ, List, length}

-- the bytes that were read lie in the lent list
abbrev pub Within : {E : Type 0} → Result ℕ E → List ℕ → Type 0
Within (Ok n) net = n ≤ length net
Within (Err error) net = Unit {0}

-- of an input whose bytes are known: those that were read are its next ones, and none are left unless they fill the list
abbrev pub IsRead : {E : Type 0} → Option (List ℕ) → Option (List ℕ) → Result ℕ E → List ℕ → Type 0
IsRead old new (Ok n) net = Consumes old new (take n net) × (n < length net → IsAtEnd new)
IsRead old new (Err error) net = Unit {0}
