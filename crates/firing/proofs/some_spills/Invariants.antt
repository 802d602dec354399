use Rattle.std.proofs.Common.{ℕ, []}
use Rattle.firing.specs.Arcs.{Rising}
use Rattle.firing.proofs.Passes.{Spilling}
use Rattle.firing.proofs.some_spills.Given as goal

abbrev pub invariant-loop-put : goal.invariant-loop-put
invariant-loop-put l = (n : ℕ) → Rising n 0 l.takes → Rising n 0 l.puts → Spilling l.takes l.puts [] l.m n l.rest l.put-index
