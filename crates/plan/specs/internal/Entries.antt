-- An arc of the packed table, as the code holds it.
use Rattle.std.specs.Prelude.{◌≡◌, ◌≤◌, Option, MatchOption}
use Rattle.reading.specs.Basics.{ℕ}
use Rattle.plan.specs.internal.Layout.{expression_in, start_in, ranks_in, pair_in}
use Rattle.plan.specs.declared.entry.Entry.{Entry}

-- the number of the table tells it
pub record Tells (number : ℕ) (e : Entry) : Type 0 where
  pub there : 1 ≤ number
  pub expression : e.expression ≡ expression_in number
  pub start : e.start ≡ start_in number
  pub ranks : e.ranks ≡ ranks_in number
  pub paired : e.paired ≡ pair_in number

-- or tells that there is none
abbrev pub EntryTold : ℕ → Option Entry → Type 0
EntryTold number r = MatchOption r (number ≡ 0) (λ e. Tells number e)
