-- From the reader's promise to the call that counts. Assumes nothing.
use Rattle.std.specs.Prelude.{Result, Ok, Err}
use mathlib.Core.Path.{◌≡◌, subst}
use Rattle.reading.specs.Basics.{ℕ, List}
use Rattle.reading.specs.Reading.{accepted, refused}
use Rattle.reading.specs.Refusals.{number_of}
use Rattle.reading.specs.declared.refusal.Refusal.{Refusal}
use Rattle.net_reader.specs.Sizes.{net_sizes}
use Rattle.net_file.specs.internal.NetTables.{NetTold}
use Rattle.net_file.specs.declared.file.Tables.{Tables}
use Rattle.net_file.specs.declared.file.Counts.{Counts}

module _ (s : List ℕ) (t : Tables) (arcs initial : List ℕ) {r : Result Counts Refusal} (told : NetTold s t arcs initial r) where
  pub no_sizes : {f : Refusal} → r ≡ Err f → refused (number_of f.reason) f.place ≡ net_sizes s
  unfolding net_sizes
  no_sizes e = let is = subst (NetTold s t arcs initial) e told in rw is

  pub the_sizes : {c : Counts} → r ≡ Ok c → accepted (record { places = c.total; transitions = c.transitions; bindings = c.space }) ≡ net_sizes s
  unfolding net_sizes
  the_sizes e =
      let held = subst (NetTold s t arcs initial) e told in
      rw (held.read, held.holds.started.all, held.holds.transitions_are, held.holds.wide)
