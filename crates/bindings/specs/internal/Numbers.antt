-- Bindings by number: the colours of a number, the number of colours, and how many bindings stand before a transition's.
use Rattle.std.specs.Prelude.{◌+◌, ◌*◌, ◌/◌, ◌%◌, ◌∷◌}
use Rattle.reading.specs.Basics.{ℕ, List, [], take, product}
use Rattle.net.specs.Net.{Net, binding_space}

-- the colours of number i over these sizes; the last changes fastest
unfoldable pub digits : List ℕ → ℕ → List ℕ
digits [] i = []
digits (size ∷ sizes) i = i / product sizes % size ∷ digits sizes i

-- the number of colours over these sizes; what stands after the last size does not count
unfoldable pub number : List ℕ → List ℕ → ℕ
number [] colours = 0
number (size ∷ sizes) [] = 0
number (size ∷ sizes) (c ∷ colours) = c * product sizes + number sizes colours

-- how many bindings the transitions before t have
abbrev pub before : Net → ℕ → ℕ
before n t = binding_space n (take t n.transitions)
