use Rattle.std.proofs.Common.{◌≡◌, ℕ, drop}
use Rattle.firing.specs.internal.Steps.{changed}
use Rattle.firing.proofs.change.Given as goal

abbrev pub invariant-loop-arc : goal.invariant-loop-arc
invariant-loop-arc g l =
    (h : ℕ → ℕ → ℕ) → ((x y r : ℕ) → goal.F-post g l.f x y r → r ≡ h x y) → changed h (drop l.arc-index l.arcs) l.m ≡ changed h l.arcs l.initial.m
