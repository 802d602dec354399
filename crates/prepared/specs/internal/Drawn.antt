-- A net file that was read and accepted, with its table, and one of its transitions: what clauses see of both.
use Rattle.std.specs.Prelude.{◌≡◌, ◌<◌, Result, Ok, Err}
use Rattle.reading.specs.Basics.{ℕ, List, [], length}
use Rattle.reading.specs.Reading.{on, accepted, refused}
use Rattle.reading.specs.Refusals.{number_of}
use Rattle.reading.specs.declared.refusal.Refusal.{Refusal}
use Rattle.net.specs.Net.{Net, scope}
use Rattle.net_file.specs.NetFile.{read_net}
use Rattle.prepared.specs.internal.Prepared.{Prepared, InitialCounts}

-- the net of a file; of a refused one an empty net
abbrev pub net_in : List ℕ → Net
net_in s = on (read_net s) (λ number place. scope [] [] []) (λ n. n)

-- a file and its table
pub record Drawn : Type 0 where
  pub file : List ℕ
  pub plan : List ℕ

abbrev pub drawn : List ℕ → List ℕ → Drawn
drawn file plan = record { file = file; plan = plan }

abbrev pub net_of : Drawn → Net
net_of d = net_in d.file

-- the table is that of the file's net
abbrev pub IsDrawn : List ℕ → List ℕ → Type 0
IsDrawn file plan = Prepared file (net_in file) plan

-- one of its transitions
pub record DrawnTransition : Type 0 where
  pub drawing : Drawn
  pub number : ℕ

abbrev pub drawn_transition : Drawn → ℕ → DrawnTransition
drawn_transition d t = record { drawing = d; number = t }

abbrev pub its_net : DrawnTransition → Net
its_net t = net_of t.drawing

abbrev pub IsInside : List ℕ → List ℕ → ℕ → Type 0
IsInside file plan t = IsDrawn file plan × (t < length (net_in file).transitions)

abbrev pub Stands : DrawnTransition → Type 0
Stands t = IsInside t.drawing.file t.drawing.plan t.number

-- what reading gives: the file with its net and initial counts, or the refusal
abbrev pub DrawingTold : List ℕ → List ℕ → Result Drawn Refusal → Type 0
DrawingTold s initial (Ok d) = (d.file ≡ s) × (read_net s ≡ accepted (net_of d)) × InitialCounts (net_of d) initial
DrawingTold s initial (Err r) = read_net s ≡ refused (number_of r.reason) r.place
