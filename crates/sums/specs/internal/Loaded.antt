-- What the code that evaluates arc expressions promises.
use Rattle.std.specs.Prelude.{◌≡◌, ◌≤◌, ◌<◌, ◌+◌, ◌*◌, ◌/◌, ◌∷◌, if◌then◌else◌}
use Rattle.reading.specs.Basics.{ℕ, Bool, List, [], map, length, ltb, keep, numbers_from}
use Rattle.reading.specs.Reading.{Answer, fine, fault}
use Rattle.firing.specs.declared.Arc.{Arc}
use Rattle.plan.specs.internal.Layout.{sets_in, variables_in}
use Rattle.net.specs.Net.{Expression, one, two, all, plus, minus, times, Place, Net, scope}
use Rattle.net.specs.Reader.{read_expression}
use Rattle.net.specs.Values.{weight}
use Rattle.evaluation.specs.internal.Evaluated.{scope_in, bound, place_by}
use Rattle.arc_expressions.specs.declared.operator.Operator.{Operator}
use Rattle.arc_expressions.specs.declared.operator.Operator.TheVariants.{Plus, Minus}
use Rattle.runs.specs.internal.Terms.{Laid, Terms, count_in}
use Rattle.sums.specs.internal.Slots.{slots_for}
use Rattle.sums.specs.declared.terms.Multiset.{Multiset}
use Rattle.sums.specs.declared.bound_arc.BoundArc.{BoundArc}
use Rattle.evaluation.specs.declared.evaluate.Bound.{Bound}
use Rattle.plan.specs.declared.entry.Entry.{Entry}

-- ---- the multiset of an arc expression
-- how many counts of a colour stand in it
unfoldable pub terms : Expression → ℕ
terms (one count k) = 1
terms (two count a b) = 1
terms (all count) = 0
terms (plus a b) = terms a + terms b
terms (minus a b) = terms a + terms b
terms (times factor e) = terms e

-- terms and a rest are those of an arc expression, for the ranks below a number
pub record Counted (n : Net) (env : List ℕ) (count : ℕ) (e : Expression) (l : List Arc) (rest : ℕ) : Type 0 where
  pub rising : Terms count 0 l
  pub counts : (rank : ℕ) → rank < count → weight n (bound env) rank e ≡ count_in l rest rank
  pub few : length l ≤ terms e

-- the byte of a sum and of a difference
abbrev pub byte_of : Operator → ℕ
byte_of Plus = 0x42
byte_of Minus = 0x43

-- ---- its terms in a lent room
-- they were laid into its front
pub record Listed (n : Net) (env : List ℕ) (count : ℕ) (room room' : List Arc) (r : Multiset) (e : Expression) (next : ℕ) : Type 0 where
  pub list : List Arc
  pub lie : Laid list room room' r.many
  pub counted : Counted n env count e list r.rest
  pub after : r.next ≡ next

-- where the bytes hold an arc expression, and there is room for twice its terms
abbrev pub ListedTold : Net → List ℕ → ℕ → List Arc → List Arc → Multiset → Answer Expression → Type 0
ListedTold n env count room room' r (fine e next) = 2 * terms e ≤ length room → Listed n env count room room' r e next
ListedTold n env count room room' r (fault number place) = Unit {0}

-- those of the expression that stands at a place of the file with some levels left, for the ranks of the arc's place
abbrev pub ListedAt : BoundArc → ℕ → ℕ → List Arc → List Arc → Multiset → Type 0
ListedAt arc left at room room' r =
    (known : List Place) (first second : ℕ) → ListedTold (scope_in arc.bound.plan.now known) arc.bound.env.now arc.entry.ranks room room' r
    (read_expression arc.bound.file.now (scope_in arc.bound.plan.now known) (place_by arc.entry.paired first second) left at)

-- ---- arcs
-- an arc at a place, none where its weight is 0
abbrev pub one_arc : ℕ → ℕ → List Arc
one_arc place weight = if ltb 0 weight then record { place = place; weight = weight } ∷ [] else []

-- the arcs that weights give so many ranks of a place from one rank on; its flat places begin at start
abbrev pub ranks_from : ℕ → (ℕ → ℕ) → ℕ → ℕ → List Arc
ranks_from start w from n = keep (λ a. ltb 0 a.weight) (map (λ r. record { place = start + r; weight = w r }) (numbers_from from n))

abbrev pub rank_arcs : ℕ → ℕ → (ℕ → ℕ) → List Arc
rank_arcs start count w = ranks_from start w 0 count

-- terms were turned into arcs, where there is room for those of so many ranks
abbrev pub TermsLoaded : ℕ → ℕ → List Arc → ℕ → List Arc → List Arc → ℕ → Type 0
TermsLoaded start count l rest room room' r =
    (w : ℕ → ℕ) → Terms count 0 l → ((rank : ℕ) → rank < count → w rank ≡ count_in l rest rank) → count ≤ length room
    → Laid (rank_arcs start count w) room room' r

-- the arcs of the expression that stands at a place of the file were laid into a room's front, where it has slots for them and half the file
abbrev pub ExpressionLoaded : List ℕ → List ℕ → List ℕ → List ℕ → Bool → ℕ → ℕ → ℕ → List Arc → List Arc → ℕ → Type 0
ExpressionLoaded s sizes vars env paired start count at room room' r =
    (known : List Place) (first second next : ℕ) (e : Expression) → read_expression s (scope sizes vars known) (place_by paired first second) 16 at ≡ fine e next
    → slots_for s at count + length s / 2 ≤ length room
    → Laid (rank_arcs start count (λ rank. weight (scope sizes vars known) (bound env) rank e)) room room' r

-- those of an arc under a binding, by its entry
abbrev pub ArcLoaded : Bound → Entry → List Arc → List Arc → ℕ → Type 0
ArcLoaded b e = ExpressionLoaded b.file.now (sets_in b.plan.now) (variables_in b.plan.now) b.env.now e.paired e.start e.ranks e.expression
