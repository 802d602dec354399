-- Rows that lie in two lent lists, and rows with one more arc: what they hold, that they stay proper, and how many arcs they have. Assumes nothing.
use Rattle.std.specs.Prelude.{◌+◌, ◌-◌, ◌*◌, ◌&&◌, ◌∷◌}
use mathlib.Core.Path.{◌≡◌, sym, ◌∙◌}
use mathlib.Core.Bool.{and_assoc, and-true}
use Prim.Native.Nat.{◌≤◌, ◌<◌}
use native.Mathlib.Omega.{arith}
use native.Mathlib.Decide.{dec_le}
use borrow.Author.Tests.{lt-ltb, le-ltb, le-leb, lt-leb, ne_eqb, ltb-true, eqb-true}
use lib.ListN.{set, length-append}
use Rattle.reading.specs.Basics.{ℕ, Bool, true, false, List, [], length, ltb, leb, eqb, with, every}
use Rattle.reading.proofs.Commands.{first_fails, second_fails}
use Rattle.reading.proofs.Keeps.{both_true}
use Rattle.firing.specs.declared.Arc.{Arc}
use Rattle.firing.specs.Arcs.{Row, Rising, none, more, Proper}
use Rattle.firing.specs.internal.RowLists.{arcs_in, row_in}
use Rattle.firing.proofs.Rows.{length_arcs, arcs_none, arcs_kept, arcs_with}
use Rattle.flat_file.specs.Flat.{rise}
use Rattle.flat_file.specs.internal.ReaderEnums.{in_order, added, key, Least, later_ends}
use Rattle.firing.specs.declared.kind.Kind.{Kind}
use Rattle.firing.specs.declared.kind.Kind.TheVariants.{Take, Put, Hinder}
use Rattle.firing.specs.declared.Ends.{Ends}

-- ---- tests
-- a test of every element, with one more at the end
every-with : {A : Type 0} (test : A → Bool) (l : List A) (a : A) → every test (with l a) ≡ every test l && test a
unfolding every
every-with test [] a = and-true (test a)
every-with test (b ∷ l) a = rw (every-with test l a) (sym (and_assoc (test b) (every test l) (test a)))

-- ---- one more arc
-- arcs that rise to a place still rise with one there
rising_with : {n from : ℕ} {l : List Arc} (a : Arc) → Rising n from l → rise l a.place ≡ true → from ≤ a.place → a.place < n → 0 < a.weight
    → Rising n from (with l a)
unfolding every
rising_with a none e le lt w = more le lt w none
rising_with a (more {a = b} {l = l} p q v r) e le lt w =
    let (here, rest) = both_true (ltb b.place a.place) (rise l a.place) e in
    more p q v (rising_with a r rest (omega (arith, ltb-true b.place a.place here)) lt w)

-- so many arcs rise over n places
rising_few : {n from : ℕ} {l : List Arc} → Rising n from l → length l ≤ n - from
rising_few none = omega arith
rising_few (more p q v r) = omega (arith, rising_few r)

-- a proper row stays proper with an arc in order
module _ (n : ℕ) (r : Row) (a : Arc) (proper : Proper n r) (lt : a.place < n) (w : 0 < a.weight) where
  pub proper_added : (kind : Kind) → in_order kind r a.place ≡ true → Proper n (added kind r a)
  proper_added Take e =
      record {
        takes = rising_with a proper.takes (both_true _ _ (both_true _ _ e).0).0 (omega arith) lt w;
        puts = proper.puts;
        hinders = proper.hinders;
      }
  proper_added Put e = record { takes = proper.takes; puts = rising_with a proper.puts (both_true _ _ e).0 (omega arith) lt w; hinders = proper.hinders }
  proper_added Hinder e = record { takes = proper.takes; puts = proper.puts; hinders = rising_with a proper.hinders e (omega arith) lt w }

-- how many arcs a row has
unfoldable pub arc_count : Row → ℕ
arc_count r = length r.takes + (length r.puts + length r.hinders)

-- one more with an arc more
pub one_more : (kind : Kind) (r : Row) (a : Arc) → arc_count (added kind r a) ≡ arc_count r + 1
unfolding arc_count
one_more Take r a = simp length-append (omega arith)
one_more Put r a = simp length-append (omega arith)
one_more Hinder r a = simp length-append (omega arith)

-- a proper row has few
pub few_arcs : (n : ℕ) (r : Row) → Proper n r → arc_count r ≤ 3 * n
unfolding arc_count
few_arcs n r p = omega (arith, rising_few p.takes, rising_few p.puts, rising_few p.hinders)

-- ---- the least key
-- a test that is an order of two numbers
order-holds : (a b : ℕ) {x : Bool} → x ≡ true → a ≤ b → x ≡ leb a b
order-holds a b e le = e ∙ sym (le-leb a b le)

order_fails : (a b : ℕ) {x : Bool} → x ≡ false → b < a → x ≡ leb a b
order_fails a b e lt = e ∙ sym (lt-leb a b lt)

is_order : (a b : ℕ) {x : Bool} → (a ≤ b → x ≡ true) → (b < a → x ≡ false) → x ≡ leb a b
is_order a b f g = elim (dec_le a b) [ yes le ↦ order-holds a b (f le) le | no no_le ↦ order_fails a b (g (omega arith)) (omega arith) ]

-- one more arc lets pass what stands above it, and nothing else
rises_on : (l : List Arc) (a : Arc) (q : ℕ) → a.place < q → rise (with l a) q ≡ rise l q
rises_on l a q lt = every-with (λ b. ltb b.place q) l a ∙ rw (lt-ltb a.place q lt) (and-true (rise l q))

rises_not : (l : List Arc) (a : Arc) (q : ℕ) → q ≤ a.place → rise (with l a) q ≡ false
rises_not l a q le = every-with (λ b. ltb b.place q) l a ∙ second_fails (rise l q) (ltb a.place q) (le-ltb a.place q le)

-- a test that a kind has no arc fails, once it has one
filled : (t : Bool) (l : List Arc) (a : Arc) → t && eqb (length (with l a)) 0 ≡ false
filled t l a = second_fails t (eqb (length (with l a)) 0) (ne_eqb (length (with l a)) 0 (λ e. omega (arith, length-append l (a ∷ []))))

-- an arc of the least key or more stands in order
pub in_order_lem : (r : Row) (least : ℕ) → Least r least → (kind : Kind) (p : ℕ) → p < 65536 → least ≤ key kind p → in_order kind r p ≡ true
in_order_lem r least is kind p lt le = is kind p lt ∙ le-leb least (key kind p) le

module _ (r : Row) (a : Arc) (least : ℕ) (is : Least r least) (lt : a.place < 65536) where
  -- after it, the next key is the least
  pub least_added : (kind : Kind) → least ≤ key kind a.place → Least (added kind r a) (key kind a.place + 1)
  least_added Take le Take q lt' =
      is_order (key Take a.place + 1) (key Take q) (λ up. rw (rises_on r.takes a q (omega arith)) (in_order_lem r least is Take q lt' (omega arith)))
      (λ down. first_fails _ _ (first_fails _ _ (rises_not r.takes a q (omega arith))))
  least_added Take le Put q lt' = order-holds (key Take a.place + 1) (key Put q) (in_order_lem r least is Put q lt' (omega arith)) (omega arith)
  least_added Take le Hinder q lt' = order-holds (key Take a.place + 1) (key Hinder q) (in_order_lem r least is Hinder q lt' (omega arith)) (omega arith)
  least_added Put le Take q lt' = order_fails (key Put a.place + 1) (key Take q) (first_fails (rise r.takes q && eqb (length (with r.puts a)) 0) _ (filled (rise r.takes q) r.puts a)) (omega arith)
  least_added Put le Put q lt' =
      is_order (key Put a.place + 1) (key Put q) (λ up. rw (rises_on r.puts a q (omega arith)) (in_order_lem r least is Put q lt' (omega arith)))
      (λ down. first_fails _ _ (rises_not r.puts a q (omega arith)))
  least_added Put le Hinder q lt' = order-holds (key Put a.place + 1) (key Hinder q) (in_order_lem r least is Hinder q lt' (omega arith)) (omega arith)
  least_added Hinder le Take q lt' = order_fails (key Hinder a.place + 1) (key Take q) (filled (rise r.takes q && eqb (length r.puts) 0) r.hinders a) (omega arith)
  least_added Hinder le Put q lt' = order_fails (key Hinder a.place + 1) (key Put q) (filled (rise r.puts q) r.hinders a) (omega arith)
  least_added Hinder le Hinder q lt' =
      is_order (key Hinder a.place + 1) (key Hinder q)
      (λ up. rises_on r.hinders a q (omega arith) ∙ in_order_lem r least is Hinder q lt' (omega arith)) (λ down. rises_not r.hinders a q (omega arith))

-- ---- in a lent list
-- the row in the list, with an arc of some kind stored after all others
module _ (arcs : List Arc) (ends : Ends) (a : Arc) (least : ℕ) (room : ends.hinders < length arcs) (first : ends.takes ≤ ends.puts) (second : ends.puts ≤ ends.hinders)
    (is : Least (row_in arcs ends.takes ends.puts ends.hinders) least) (lt : a.place < 65536) where
  abbrev R : Row
  R = row_in arcs ends.takes ends.puts ends.hinders

  -- no arcs, so both ends are one
  empty : (x y : ℕ) → x ≤ y → y ≤ length arcs → eqb (length (arcs_in arcs x y)) 0 ≡ true → x ≡ y
  empty x y le up e = omega (arith, length_arcs arcs x y up, eqb-true (length (arcs_in arcs x y)) 0 e)

  -- before a take there are no puts, and before those no hinders
  no_puts : in_order Take R a.place ≡ true → ends.takes ≡ ends.puts
  no_puts e = empty ends.takes ends.puts first (omega arith) (both_true (rise R.takes a.place) _ (both_true (rise R.takes a.place && eqb (length R.puts) 0) _ e).0).1

  no_hinders : (t : Bool) → t && eqb (length R.hinders) 0 ≡ true → ends.puts ≡ ends.hinders
  no_hinders t e = empty ends.puts ends.hinders second (omega arith) (both_true t _ e).1

  -- the row with it is the row in the list after the store
  abbrev Stored : Kind → Row
  Stored kind = let to = later_ends kind ends in row_in (set arcs ends.hinders a) to.takes to.puts to.hinders

  pub row-added : (kind : Kind) → least ≤ key kind a.place → added kind R a ≡ Stored kind
  row-added Take le =
      let e = in_order_lem R least is Take a.place lt le in
      let none_put : ends.takes ≡ ends.puts = no_puts e in
      let none_hinder : ends.puts ≡ ends.hinders = no_hinders (rise R.takes a.place && eqb (length R.puts) 0) e in
      rw (none_put, none_hinder, arcs_with arcs ends.hinders a 0 (omega arith) room, arcs_none arcs ends.hinders ends.hinders (omega arith), arcs_none (set arcs ends.hinders a) (ends.hinders + 1) (ends.hinders + 1) (omega arith))
  row-added Put le =
      let none_hinder : ends.puts ≡ ends.hinders = no_hinders (rise R.puts a.place) (in_order_lem R least is Put a.place lt le) in
      rw (none_hinder, arcs_kept arcs ends.hinders a 0 ends.takes (omega arith), arcs_with arcs ends.hinders a ends.takes (omega arith) room, arcs_none arcs ends.hinders ends.hinders (omega arith), arcs_none (set arcs ends.hinders a) (ends.hinders + 1) (ends.hinders + 1) (omega arith))
  row-added Hinder le = rw (arcs_kept arcs ends.hinders a 0 ends.takes (omega arith), arcs_kept arcs ends.hinders a ends.takes ends.puts second, arcs_with arcs ends.hinders a ends.puts second room)
