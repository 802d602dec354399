-- The comparisons of a guard.
use Rattle.reading.specs.Basics.{ℕ, Bool, ltb, eqb}
use Rattle.net.specs.Net.{Colour, Guard, equal, less}
use Rattle.evaluation.specs.declared.step.Comparison.{Comparison}
use Rattle.evaluation.specs.declared.step.Comparison.TheVariants as how

-- its tree over two colours
abbrev pub tree_of : Comparison → Colour → Colour → Guard
tree_of how.Equal = equal
tree_of how.Less = less

-- whether it holds of two colours
abbrev pub test_of : Comparison → ℕ → ℕ → Bool
test_of how.Equal = eqb
test_of how.Less = ltb
