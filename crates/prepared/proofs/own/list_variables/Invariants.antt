use Rattle.std.proofs.Common.{◌≡◌, ◌≤◌, length}
use Rattle.net.specs.Net.{Net}
use Rattle.net_file.specs.Limits.{Limits}
use Rattle.prepared.proofs.Listing.{Used, Rows, Free}
use Rattle.prepared.proofs.own.list_variables.Given as goal

abbrev pub invariant-loop-t : goal.invariant-loop-t
invariant-loop-t l =
    (length l.own ≡ 128) × (length l.vars ≤ 32 → Free l.own l.t)
    × ((n : Net) → n.sets ≡ l.sizes → n.variables ≡ l.vars → Limits n → length n.transitions ≡ l.transitions → Used n l.heads → Rows n l.own l.t)
