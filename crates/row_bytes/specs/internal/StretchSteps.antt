-- Going over the bindings of each transition, one transition after the other.
use Rattle.std.specs.Prelude.{◌≡◌, ◌≤◌, ◌<◌, ◌+◌, Option, MatchOption}
use Rattle.reading.specs.Basics.{ℕ, length}
use Rattle.prepared.specs.internal.Drawn.{Drawn, net_of, drawn_transition}
use Rattle.row_bytes.specs.declared.stretch.Stretch.{Stretch}

-- a transition's bindings were told, or none is left
pub record Told {arcs : ℕ} (drawing : Drawn) (t : ℕ) (told : Option (Stretch arcs)) (drawing' : Drawn) (t' : ℕ) : Type 0 where
  pub same : drawing' ≡ drawing
  pub stretch : MatchOption told (length (net_of drawing).transitions ≤ t) (λ those. (t < length (net_of drawing).transitions) × (those.transition ≡ drawn_transition drawing t) × (t' ≡ t + 1))
