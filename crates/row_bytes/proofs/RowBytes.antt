-- The rows' bytes are what each transition's bindings give, one after the other; and the loops that measure and write them. Assumes nothing.
use Rattle.std.specs.Prelude.{◌+◌, ◌*◌, ◌-◌, ◌∷◌, ◌++◌}
use mathlib.Core.Path.{◌≡◌, refl, sym, ap, ◌∙◌}
use Prim.Native.Nat.{◌≤◌, ◌<◌}
use native.Mathlib.Omega.{arith}
use native.Mathlib.Nat.{add-zero}
use lib.ListN.{length-append}
use Rattle.reading.specs.Basics.{ℕ, zero, suc, Bool, true, false, List, [], map, flat_map, filter_map, Option, none, some, length, get_elem?, given, numbers_from, below, product}
use Rattle.firing.specs.Firing.{Weights}
use Rattle.firing.specs.Arcs.{Row}
use Rattle.firing.specs.internal.RowLists.{EndsWithin, row_in}
use Rattle.firing.specs.declared.Arc.{Arc}
use Rattle.firing.specs.declared.Ends.{Ends}
use Rattle.flat_file.specs.Flat.{row_bytes}
use Rattle.net.specs.Net.{Net, sizes_of, transition_at}
use Rattle.bindings.specs.Effect.{Binding, choices, bindings, effect, flat_row}
use Rattle.bindings.specs.internal.Numbers.{digits}
use Rattle.bindings.specs.internal.Bindings.{numbered, its_sizes, its_binding, BindsIts}
use Rattle.bindings.specs.internal.Legal.{every_row}
use Rattle.rows.specs.internal.Effects.{room, RowLoaded}
use Rattle.rows.specs.internal.Loading.{LoadsRow}
use Rattle.prepared.specs.internal.Drawn.{Drawn, net_of, DrawnTransition, drawn_transition, its_net, IsDrawn}
use Rattle.net_file.specs.Limits.{Limits}
use Rattle.prepared.proofs.Known.{its_limits}
use Rattle.bindings.proofs.Bindings.{bound, bindings_of, choices-length}
use Rattle.bindings.proofs.Digits.{choices_at}
use Rattle.reading.proofs.Lists.{flat_flat}
use Rattle.row_numbers.specs.Unfolding.{Rowed, rows, unfolded}
use Rattle.row_numbers.specs.internal.Walked.{takes_effect, its_every_row, it_takes, entries_at, entries}
use Rattle.row_numbers.specs.internal.Marks.{mark_at, has_row}
use Rattle.row_bytes.specs.internal.RowBytes.{binding_bytes, transition_bytes, bytes_at, its_bytes, Ruled, Known, Bound}
use Rattle.row_bytes.specs.internal.StretchSteps.{Told}
use Rattle.row_bytes.specs.declared.stretch.Stretch.{Stretch}
use Rattle.std.specs.Prelude.{Some, None}
use Rattle.flat_file.proofs.Appending.{length_row_in, Going, go_begin}
use Rattle.row_numbers.proofs.Rows.{rowed_if}
use Rattle.row_numbers.proofs.Tabled.{entries_next}
use Rattle.row_numbers.proofs.Marking.{marks_few, marks_told}

-- ---- lists
-- pieces of a list made element by element
module _ {B C : Type 0} (f : B → List C) where
  flat_map_lem : {A : Type 0} (g : A → B) (l : List A) → flat_map f (map g l) ≡ flat_map (λ a. f (g a)) l
  unfolding flat_map
  flat_map_lem g [] = refl
  flat_map_lem g (a ∷ l) = ap (λ k. f (g a) ++ k) (flat_map_lem g l)

flat_same : {A : Type 0} (f g : A → List ℕ) → ((a : A) → f a ≡ g a) → (l : List A) → flat_map f l ≡ flat_map g l
unfolding flat_map
flat_same f g e [] = refl
flat_same f g e (a ∷ l) = rw (e a, flat_same f g e l)

-- a list by what stands at each number
by_number : {A : Type 0} (f : ℕ → A) (l : List A) (a : ℕ) → ((i : ℕ) → i < length l → get_elem? l i ≡ some (f (a + i))) → l ≡ map f (numbers_from a (length l))
unfolding numbers_from
by_number f [] a e = refl
by_number f (x ∷ l) a e =
    let q : some x ≡ some (f (a + 0)) = e 0 (omega arith) in
    let p : x ≡ f a = rw add-zero at (let r : x ≡ f (a + 0) = cc in r) in
    rw p (ap (λ m. f a ∷ m) (by_number f l (a + 1) (λ i h. let s : a + suc i ≡ a + 1 + i = omega arith in rw s at (e (suc i) (omega arith)))))

-- ---- the rows' bytes
choices_are : (sizes : List ℕ) → choices sizes ≡ map (digits sizes) (below (product sizes))
choices_are sizes =
    by_number (digits sizes) (choices sizes) 0 (λ i h. let z : 0 + i ≡ i = omega arith in rw z (choices_at sizes i (omega (arith, choices-length sizes))))
    ∙ ap (λ k. map (digits sizes) (below k)) (choices-length sizes)

module _ (n : Net) where
  -- what a binding gives
  abbrev gives : Binding → List ℕ
  gives b = given (effect n b) [] λ w. row_bytes (flat_row n w)

  abbrev row_of_rowed : Rowed → Row
  row_of_rowed r = flat_row n r.weights

  rows_gather : (l : List Binding) → flat_map row_bytes (map row_of_rowed (filter_map (rowed_if n) l)) ≡ flat_map gives l
  unfolding flat_map filter_map
  rows_gather [] = refl
  rows_gather (b ∷ l) = go (effect n b) refl (rows_gather l)
    where
      go : (o : Option Weights) → effect n b ≡ o → flat_map row_bytes (map row_of_rowed (filter_map (rowed_if n) l)) ≡ flat_map gives l
          → flat_map row_bytes (map row_of_rowed (filter_map (rowed_if n) (b ∷ l))) ≡ gives b ++ flat_map gives l
      go none e ih = rw e ih
      go (some w) e ih = rw e (ap (λ k. row_bytes (flat_row n w) ++ k) ih)

  transition_gives : (t : ℕ) → flat_map gives (bindings_of n t) ≡ transition_bytes n t
  unfolding transition_bytes binding_bytes
  transition_gives t =
      let sizes : List ℕ = sizes_of n (transition_at n t) in
      flat_map_lem gives (bound t) (choices sizes) ∙ ap (flat_map (λ c. gives (bound t c))) (choices_are sizes) ∙ flat_map_lem (λ c. gives (bound t c)) (digits sizes) (below (product sizes))

  pub rows_bytes : flat_map row_bytes (unfolded n).rows ≡ flat_map (transition_bytes n) (below (length n.transitions))
  unfolding unfolded rows bindings
  rows_bytes =
      rows_gather (bindings n)
      ∙ flat_flat gives (bindings_of n) (below (length n.transitions))
      ∙ flat_same (λ t. flat_map gives (bindings_of n t)) (transition_bytes n) transition_gives (below (length n.transitions))

-- ---- one binding
-- with an effect, or without
by_effect : (n : Net) (t i : ℕ) {C : Type 0} → takes_effect n t i ≡ true → ((w : Weights) → effect n (numbered n t i) ≡ some w → C) → C
by_effect n t i {C} e f = go (effect n (numbered n t i)) refl e
  where
    go : (o : Option Weights) → effect n (numbered n t i) ≡ o → (given o false λ w. true) ≡ true → C
    go none q g = let z : ◌≡◌ {A = ℕ} 0 1 = cc in absurd (omega arith)
    go (some w) q g = f w q

no_effect : (n : Net) (t i : ℕ) → takes_effect n t i ≡ false → binding_bytes n t i ≡ []
unfolding binding_bytes
no_effect n t i e = go (effect n (numbered n t i)) e
  where
    go : (o : Option Weights) → (given o false λ w. true) ≡ false → (given o [] λ w. row_bytes (flat_row n w)) ≡ []
    go none q = refl
    go (some w) q = let z : ◌≡◌ {A = ℕ} 0 1 = cc in absurd (omega arith)

-- its row was loaded
module _ {transition : DrawnTransition} (limits : Limits (its_net transition)) {env : List ℕ} (it : Bound transition env) (list list' : List Arc) {r : Ends}
    (told : LoadsRow transition.drawing.file (its_net transition) env transition.number list list' r) (p : room transition.drawing.file (net_of transition.drawing) ≤ length list) where
  pub row_here : RowLoaded (its_net transition) (its_binding transition it.index) list' r.takes r.puts r.hinders
  row_here = told (digits (its_sizes transition) it.index) it.binds p

  pub row_fits : r.hinders ≤ 12288
  row_fits = omega (arith, row_here.fits, limits.flat_places_lem)

  pub gives_row : bytes_at transition it.index ≡ row_bytes (row_in list' r.takes r.puts r.hinders)
  unfolding binding_bytes
  gives_row = by_effect (its_net transition) transition.number it.index it.takes_effect_lem (λ w q. rw q (ap row_bytes (sym (row_here.row w q))))

  -- as it is held
  pub gives_held : {held : Row} → held ≡ row_in list' r.takes r.puts r.hinders → bytes_at transition it.index ≡ row_bytes held
  gives_held e = gives_row ∙ ap row_bytes (sym e)

  pub gives_length : EndsWithin list' r.takes r.puts r.hinders → length (bytes_at transition it.index) ≡ 1 + 5 * r.hinders
  gives_length within = ap length gives_row ∙ length_row_in list' r.takes r.puts r.hinders within

-- ---- the loops
-- the numbers that are left
pub left_more : (many i : ℕ) → i < many → numbers_from i (many - i) ≡ i ∷ numbers_from (i + 1) (many - (i + 1))
unfolding numbers_from
left_more many i h = let e : many - i ≡ suc (many - (i + 1)) = omega arith in rw e

pub left_none : (many i : ℕ) → many ≤ i → numbers_from i (many - i) ≡ []
unfolding numbers_from
left_none many i h = let e : many - i ≡ 0 = omega arith in rw e

-- those that give nothing
left_over : (f : ℕ → List ℕ) (many i count : ℕ) → i + count ≤ many → ((j : ℕ) → j < count → f (i + j) ≡ []) → flat_map f (numbers_from i (many - i)) ≡ flat_map f (numbers_from (i + count) (many - (i + count)))
unfolding flat_map
left_over f many i zero le nothing = let e : i + 0 ≡ i = omega arith in rw e
left_over f many i (suc count) le nothing =
    let first : f i ≡ [] = rw (add-zero i) at (nothing 0 (omega arith)) in
    let e : i + suc count ≡ i + 1 + count = omega arith in
    let others = left_over f many (i + 1) count (omega arith) (λ j lt. let q : i + suc j ≡ i + 1 + j = omega arith in rw q at (nothing (suc j) (omega arith))) in
    ap (flat_map f) (left_more many i (omega arith)) ∙ ap (λ l. l ++ flat_map f (numbers_from (i + 1) (many - (i + 1)))) first ∙ rw e others

-- a total that grows by the length of each piece: with those left it is the whole
pub record Measuring (f : ℕ → List ℕ) (many start total i : ℕ) : Type 0 where
  pub sum : total + length (flat_map f (numbers_from i (many - i))) ≡ start + length (flat_map f (below many))

module _ (f : ℕ → List ℕ) (many start : ℕ) where
  pub measure_begins : Measuring f many start start 0
  measure_begins = record { sum = let e : many - 0 ≡ many = omega arith in rw e }

  module _ {total i : ℕ} (here : Measuring f many start total i) where
    pub measure_rest : i < many → total + length (f i) + length (flat_map f (numbers_from (i + 1) (many - (i + 1)))) ≡ start + length (flat_map f (below many))
    unfolding flat_map
    measure_rest h =
        let e : flat_map f (numbers_from i (many - i)) ≡ f i ++ flat_map f (numbers_from (i + 1) (many - (i + 1))) = ap (flat_map f) (left_more many i h) in
        omega (arith, here.sum, ap length e, length-append (f i) (flat_map f (numbers_from (i + 1) (many - (i + 1)))))

    pub measure_goes : i < many → {more : ℕ} → more ≡ total + length (f i) → Measuring f many start more (i + 1)
    measure_goes h e = record { sum = omega (arith, measure_rest h) }

    pub measure_over : {k : ℕ} → flat_map f (numbers_from i (many - i)) ≡ flat_map f (numbers_from k (many - k)) → Measuring f many start total k
    measure_over e = record { sum = rw e at here.sum }

    pub measure_ends : many ≤ i → total ≡ start + length (flat_map f (below many))
    unfolding flat_map
    measure_ends h = omega (arith, here.sum, ap length (ap (flat_map f) (left_none many i h)))

-- writing begins with all of them left
pub write_begins : (f : ℕ → List ℕ) (many : ℕ) (out : List ℕ) (at : ℕ) → Going f (below many) (numbers_from 0 (many - 0)) out out at at
write_begins f many out at = let e : many - 0 ≡ many = omega arith in rw e (go_begin f (below many) out at)

-- ---- the bindings of a transition
module _ {transition : DrawnTransition} {marks : List ℕ} {many base : ℕ} (known : Known transition marks many base) where
  -- one that has a row, or none, as is told
  module _ {i : ℕ} (lt : i < many) {b : Bool} (e : base + i < 65536 → b ≡ has_row (its_every_row transition) marks (base + i)) where
    pub takes_it : b ≡ it_takes transition i
    takes_it = e (omega (arith, known.few)) ∙ known.told i lt

    pub gives_nothing : b ≡ false → bytes_at transition i ≡ []
    gives_nothing q = no_effect (its_net transition) transition.number i (sym takes_it ∙ q)

    abbrev pub bound_here : {env : List ℕ} → BindsIts transition i env → b ≡ true → Bound transition env
    bound_here binds q = record { index = i; binds = binds; takes_effect_lem = sym takes_it ∙ q }

    -- then it is passed over
    pub known_past : b ≡ false → flat_map (bytes_at transition) (numbers_from i (many - i)) ≡ flat_map (bytes_at transition) (numbers_from (i + 1) (many - (i + 1)))
    known_past q = left_over (bytes_at transition) many i 1 (omega arith) (λ j less. let z : i + j ≡ i = omega arith in rw z (gives_nothing q))

  -- where a word of marks is 0, 32 bindings give nothing
  pub known_over : (i : ℕ) → i + 32 ≤ many → its_every_row transition ≡ false → ((j : ℕ) → j < 32 → mark_at marks (base + i + j) ≡ false)
      → flat_map (bytes_at transition) (numbers_from i (many - i)) ≡ flat_map (bytes_at transition) (numbers_from (i + 32) (many - (i + 32)))
  known_over i le marked blank =
      left_over (bytes_at transition) many i 32 le (λ j lt.
      let e : base + (i + j) ≡ base + i + j = omega arith in
      no_effect (its_net transition) transition.number (i + j) (sym (known.told (i + j) (omega arith)) ∙ rw (marked, e) (blank j lt)))

  -- what all of them give
  pub all_given : flat_map (bytes_at transition) (below many) ≡ its_bytes transition
  unfolding transition_bytes
  all_given = ap (λ k. flat_map (bytes_at transition) (below k)) known.size

-- ---- from one transition to the next
module _ {drawing : Drawn} {marks : List ℕ} (ready : IsDrawn drawing.file drawing.plan) (ruled : Ruled drawing marks) {t base : ℕ} (lt : t < length (net_of drawing).transitions)
    (from : base ≡ entries (net_of drawing) drawing.plan t) {transition : DrawnTransition} (is : transition ≡ drawn_transition drawing t) {many : ℕ} (size : many ≡ product (its_sizes transition)) where
  -- what is known of it
  pub known_of : Known transition marks many base
  known_of =
      let e : many ≡ product (sizes_of (net_of drawing) (transition_at (net_of drawing) t)) = rw is at size in
      rw is (record { limits = its_limits ready; size = e; few = marks_few ready lt e from; told = marks_told ready lt e from ruled })

  -- where the next one's marks stand
  pub entries_then : {more : ℕ} → more ≡ entries_at (its_every_row transition) (product (its_sizes transition)) → base + more ≡ entries (net_of drawing) drawing.plan (t + 1)
  entries_then {more} e =
      let q : more ≡ entries_at (every_row drawing.plan t) (product (sizes_of (net_of drawing) (transition_at (net_of drawing) t))) = rw is at e in
      omega (arith, from, entries_next (net_of drawing) drawing.plan t)

-- going over them: one was told, or none is left
module _ {arcs : ℕ} {drawing left : Drawn} (same : left ≡ drawing) {t : ℕ} {left' : Drawn} {t' : ℕ} where
  module _ {those : Stretch arcs} (told : Told left t (Some those) left' t') where
    pub those_here : t < length (net_of drawing).transitions
    those_here = rw same at told.stretch.0

    pub those_given : its_bytes those.transition ≡ transition_bytes (net_of drawing) t
    those_given = rw (told.stretch.1, same)

  pub none_left : Told {arcs = arcs} left t None left' t' → length (net_of drawing).transitions ≤ t
  none_left told = rw same at told.stretch
