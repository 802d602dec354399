-- How many arcs an expression gives at most, whatever the binding.
use Rattle.std.specs.Prelude.{◌≡◌, ◌+◌, ◌-◌, min, if◌then◌else◌}
use Rattle.reading.specs.Basics.{ℕ, List, Option, none, some, ltb, eqb, given, byte_at, word_at}
use Rattle.reading.specs.Reading.{Answer, fine, fault}
use Rattle.net.specs.Reader.{read_expression}
use Rattle.plan.specs.declared.entry.Entry.{Entry}
use Rattle.evaluation.specs.internal.Evaluated.{scope_in, place_by}
use Rattle.net.specs.Net.{Place, Expression, one, two, all, plus, minus, times}
use Rattle.row_lengths.specs.declared.arcs.Most.{Most}

-- a count of every colour less a count of one, over so many ranks: none where the first is 0, all where some of that colour is left, else all but it
abbrev pub others_of : ℕ → ℕ → ℕ → ℕ
others_of ranks count less = if ltb 0 count then (if ltb less count then ranks else ranks - 1) else 0

-- the number of a count of every colour
abbrev pub of_every : Expression → Option ℕ
of_every (one number k) = none
of_every (two number a b) = none
of_every (all number) = some number
of_every (plus a b) = none
of_every (minus a b) = none
of_every (times factor e) = none

-- the number of a count of one colour or pair
abbrev pub of_one : Expression → Option ℕ
of_one (one number k) = some number
of_one (two number a b) = some number
of_one (all number) = none
of_one (plus a b) = none
of_one (minus a b) = none
of_one (times factor e) = none

-- of a difference, whose first gives so many at most: as many as are left of every colour less one, where it is that
abbrev pub most_less : ℕ → ℕ → Option ℕ → Option ℕ → ℕ
most_less count first every single = given every first λ number. given single first λ less. others_of count number less

-- over so many ranks: one for a count of one colour or pair, one a rank for a count of every colour; those of both for a sum, but no more than one a rank; those of
-- the first for a difference, but those left of every colour less one
unfoldable pub most : ℕ → Expression → ℕ
most count (one number k) = 1
most count (two number a b) = 1
most count (all number) = count
most count (plus a b) = min count (most count a + most count b)
most count (minus a b) = most_less count (most count a) (of_every a) (of_one b)
most count (times factor e) = most count e

-- the number of the count at a place of the file, if its byte is this one
abbrev pub number_at : List ℕ → ℕ → ℕ → Option ℕ
number_at s byte at = if eqb (byte_at s at) byte then some (word_at s (at + 1)) else none

-- where the bytes hold an arc expression, its most arcs and the place after it
abbrev pub MostTold : ℕ → Most → Answer Expression → Type 0
MostTold count r (fine e next) = (r.arcs ≡ most count e) × (r.next ≡ next)
MostTold count r (fault number place) = Unit {0}

-- of the expression of an arc's entry
abbrev pub MostArc : List ℕ → List ℕ → Entry → ℕ → Type 0
MostArc s plan entry r =
    (known : List Place) (first second next : ℕ) (e : Expression) → read_expression s (scope_in plan known) (place_by entry.paired first second) 16 entry.expression ≡ fine e next
    → r ≡ most entry.ranks e
