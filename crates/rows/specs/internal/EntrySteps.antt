-- Going over the entries of a transition's kind, a row of the packed table, up to the first 0.
use Rattle.std.specs.Prelude.{◌≡◌, ◌<◌, ◌+◌, ◌*◌, Option, MatchOption}
use Rattle.reading.specs.Basics.{ℕ, List, get_or}
use Rattle.plan.specs.internal.Layout.{packed_in}
use Rattle.prepared.specs.internal.Drawn.{DrawnTransition, IsInside}
use Rattle.plan.specs.declared.entry.Entry.{Entry}
use Rattle.plan.specs.internal.Entries.{Tells}

-- all entries of a transition's kind are to come
pub record Begun (d : DrawnTransition) (k : ℕ) (plan : List ℕ) (at end : ℕ) : Type 0 where
  pub ready : IsInside d.drawing.file d.drawing.plan d.number
  pub kind : k < 3
  pub plan_is : plan ≡ d.drawing.plan
  pub at_is : at ≡ d.number * 96 + k * 32
  pub end_is : end ≡ d.number * 96 + k * 32 + 32

-- the next entry before an end was told, or there is none: it is 0, or the end is reached
pub record Told (plan : List ℕ) (at end : ℕ) (told : Option Entry) (plan' : List ℕ) (at' end' : ℕ) : Type 0 where
  pub same : plan' ≡ plan
  pub same_end : end' ≡ end
  pub entry : MatchOption told (at < end → get_or (packed_in plan) at 0 < 1) (λ e. (at < end) × Tells (get_or (packed_in plan) at 0) e × (at' ≡ at + 1))
