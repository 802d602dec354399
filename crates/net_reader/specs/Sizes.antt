-- The call that reads a net file: how many flat places, transitions and bindings the net has, or the refusal.
use Rattle.reading.specs.Basics.{ℕ, List, length}
use Rattle.reading.specs.Reading.{Outcome, accepted, refused, on}
use Rattle.net.specs.Net.{flat_place_count, binding_space}
use Rattle.net_file.specs.NetFile.{read_net}

pub record NetSizes : Type 0 where
  pub places : ℕ
  pub transitions : ℕ
  pub bindings : ℕ

unfoldable pub net_sizes : List ℕ → Outcome NetSizes
net_sizes s = on (read_net s) refused λ n. accepted (record { places = flat_place_count n; transitions = length n.transitions; bindings = binding_space n n.transitions })
