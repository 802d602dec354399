-- What a prepared table tells beside its fields, and a prepared file: its net, or the refusal. Assumes nothing.
use mathlib.Core.Path.{◌≡◌, sym, ap, subst}
use Rattle.reading.specs.Basics.{List, [], ℕ}
use Rattle.reading.specs.Reading.{on}
use Rattle.std.specs.Prelude.{Result, Ok}
use Rattle.reading.specs.declared.refusal.Refusal.{Refusal}
use Rattle.net.specs.Net.{Net, scope}
use Rattle.net_file.specs.Limits.{Limits}
use Rattle.net_file.specs.Formed.{Formed}
use Rattle.net_file.proofs.Limits.{limits}
use Rattle.net_file.proofs.Formed.{formed}
use Rattle.prepared.specs.internal.Prepared.{Prepared}
use Rattle.prepared.specs.internal.Drawn.{net_in, IsDrawn}
use Rattle.prepared.specs.internal.Filled.{Readied, PreparedTold}

module _ {s plan : List ℕ} {n : Net} (p : Prepared s n plan) where
  -- its net keeps to the limits, and is well formed
  pub its_limits : Limits n
  its_limits = limits s n p.read

  pub its_form : Formed n
  its_form = formed s n p.read

  -- its net is the one in its file, so that `Drawing::of` takes the file and the table
  pub its_file : net_in s ≡ n
  its_file = ap (λ a. on a (λ number place. scope [] [] []) (λ m. m)) p.read

  pub is_drawn : IsDrawn s plan
  is_drawn = subst (λ m. Prepared s m plan) (sym its_file) p

-- what preparing a file tells
module _ (s plan initial : List ℕ) {r : Result (Unit {0}) Refusal} where
  pub the_net : {done : Unit {0}} → r ≡ Ok done → PreparedTold s plan initial r → Readied s plan initial
  the_net e h = subst (PreparedTold s plan initial) e h
