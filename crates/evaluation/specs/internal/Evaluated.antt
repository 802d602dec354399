-- What the code's results say of the trees in the bytes.
use Rattle.std.specs.Prelude.{◌≡◌, ◌+◌, ◌-◌, if◌then◌else◌}
use Rattle.reading.specs.Basics.{ℕ, Bool, true, false, List, get_or, eqb}
use Rattle.reading.specs.Reading.{Answer, fine, fault}
use Rattle.net.specs.Net.{Colour, Guard, Expression, Place, single, pair, Net, scope, set_of}
use Rattle.plan.specs.internal.Layout.{sets_in, variables_in}
use Rattle.net.specs.Values.{colour, holds, weight}
use Rattle.evaluation.specs.declared.evaluate.Value.{Value}
use Rattle.evaluation.specs.declared.evaluate.Tested.{Tested}
use Rattle.evaluation.specs.declared.evaluate.Ranked.{Ranked}

-- what expressions are read over, by the table of a prepared net, with some places
abbrev pub scope_in : List ℕ → List Place → Net
scope_in plan places = scope (sets_in plan) (variables_in plan) places

-- ---- values under a binding; env holds each variable's colour
-- the colour after c and the one before it, going round a set
abbrev pub after : ℕ → ℕ → ℕ
after size c = if eqb (c + 1) size then 0 else c + 1

abbrev pub before : ℕ → ℕ → ℕ
before size c = if eqb c 0 then size - 1 else c - 1

-- the binding that a list of colours gives
abbrev pub bound : List ℕ → ℕ → ℕ
bound env v = get_or env v 0

-- where the bytes hold a colour, the value is its colour, its set and the place after it
abbrev pub Valued : Net → List ℕ → Value → Answer Colour → Type 0
Valued n env r (fine k next) = r ≡ record { colour = colour n (bound env) k; set = set_of n k; next = next }
Valued n env r (fault number place) = Unit {0}

-- where they hold a guard, whether it holds, and the place after it
abbrev pub GuardHeld : Net → List ℕ → Tested → Answer Guard → Type 0
GuardHeld n env r (fine g next) = r ≡ record { holds = holds n (bound env) g; next = next }
GuardHeld n env r (fault number place) = Unit {0}

-- a place of one set or of two
abbrev pub place_by : Bool → ℕ → ℕ → Place
place_by paired first second = if paired then pair first second else single first

abbrev pub is_pair : Place → Bool
is_pair (single set) = false
is_pair (pair first second) = true

-- a count goes to one rank
abbrev pub Ranks : Net → List ℕ → ℕ → Ranked → Answer Expression → Type 0
Ranks n env count r (fine e next) = (r.next ≡ next) × ((rank : ℕ) → weight n (bound env) rank e ≡ (if eqb r.rank rank then count else 0))
Ranks n env count r (fault number place) = Unit {0}
