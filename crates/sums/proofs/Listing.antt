-- The terms of an arc expression, from what stands in the bytes: by cases on the reading. Assumes nothing.
use Rattle.std.specs.Prelude.{◌+◌, ◌-◌, ◌*◌, ◌∷◌, if◌then◌else◌}
use mathlib.Core.Path.{◌≡◌, refl, sym, ap, ◌∙◌, subst}
use Prim.Native.Nat.{◌≤◌, ◌<◌}
use native.Mathlib.Omega.{arith}
use native.Mathlib.Nat.{mul-le-mul_left, le_trans}
use borrow.Author.Tests.{le-leb, ne_eqb, ltb-true, ltb-false}
use Rattle.reading.specs.Basics.{ℕ, Bool, true, false, List, [], length, take, ltb, eqb, byte_at, word_at}
use Rattle.reading.specs.Reading.{Answer, fine, fault, under, needed}
use Rattle.firing.specs.declared.Arc.{Arc}
use Rattle.net.specs.Net.{Colour, Expression, all, times, Place, single, pair, Net, ceiling}
use Rattle.net.specs.Reader.{read_colour, read_expression, expression_commands, two_of, amount, capped}
use Rattle.net.specs.Values.{weight}
use Rattle.evaluation.specs.internal.Evaluated.{bound, Ranks}
use Rattle.runs.specs.internal.Terms.{limit, term, count_in, none, more, joined, join_by, times_all, Laid}
use Rattle.arc_expressions.specs.internal.ReaderEnums.{joins}
use Rattle.arc_expressions.specs.declared.operator.Operator.{Operator}
use Rattle.arc_expressions.specs.declared.operator.Operator.TheVariants.{Plus, Minus}
use Rattle.evaluation.specs.declared.evaluate.Ranked.{Ranked}
use Rattle.net.proofs.Shut.{commands}
use Rattle.evaluation.proofs.Values.{needed_by}
use Rattle.arc_expressions.proofs.Expressions.{expression_step, expression_in_lem}
use Rattle.evaluation.proofs.Weights.{weight_le, joined_by, times_by, one_by, two_by, expression_past, expression_shut, expression_stray}
use Rattle.sums.specs.internal.Loaded.{terms, Counted, Listed, ListedTold, byte_of}
use Rattle.sums.specs.declared.terms.Multiset.{Multiset}
use borrow.Rule.Slice.PartMut.{put_mid}
use Rattle.runs.proofs.Laying.{behind, changed, laid_none, laid_front, laid_left, Merged, laid_merged}
use Rattle.runs.proofs.Joining.{join_fits, joined_counts, joined_rises, joined_few, times_counts, times_rises, times_few}

-- ---- the parts of an expression, counted
module _ (n : Net) (env : List ℕ) (count : ℕ) where
  -- a count for every rank
  all_counted : (number : ℕ) → Counted n env count (all number) [] number
  unfolding weight count_in terms
  all_counted number = record { rising = none; counts = λ rank lt. refl; few = omega arith }

  -- a count that goes to one rank, below the number or not
  module _ (e : Expression) (k number : ℕ) (alone : terms e ≡ 1) (at_one : (rank : ℕ) → weight n (bound env) rank e ≡ (if eqb k rank then number else 0)) where
    here_counted : k < count → number ≤ 65535 → Counted n env count e (term k number ∷ []) 0
    unfolding count_in
    here_counted lt small = record { rising = more {from = 0} {a = term k number} (omega arith) lt small none; counts = λ rank i. at_one rank; few = omega (arith, alone) }

    past_counted : count ≤ k → Counted n env count e [] 0
    unfolding count_in
    past_counted le = record { rising = none; counts = λ rank i. at_one rank ∙ rw (ne_eqb k rank (λ f. omega arith)); few = omega arith }

  -- a factor times an expression
  times_counted : (factor : ℕ) (e : Expression) (l : List Arc) (rest : ℕ) → ceiling (times factor e) ≤ 65535 → Counted n env count e l rest
      → Counted n env count (times factor e) (times_all factor l) (limit (factor * rest))
  unfolding weight ceiling terms
  times_counted factor e l rest small c =
      record {
        rising = times_rises factor c.rising;
        counts = λ rank lt.
            sym (times_counts factor l rest rank ∙ rw (← c.counts rank lt, le-leb (factor * weight n (bound env) rank e) 65535 (le_trans (mul-le-mul_left factor (weight_le n (bound env) rank e)) small)));
        few = rw (times_few factor l) c.few;
      }

  -- the sum of two, or the first less the second
  module _ (a b : Expression) (l m : List Arc) (p q : ℕ) (c : Counted n env count a l p) (d : Counted n env count b m q) where
    join_few : (f : ℕ → ℕ → ℕ) → length (joined f p q l m) ≤ terms a + terms b
    join_few f = let i = joined_few f p q l m in omega (arith, c.few, d.few)

    joined_counted : (op : Operator) → p ≤ 65535 → ceiling (joins op a b) ≤ 65535 → Counted n env count (joins op a b) (joined (join_by op) p q l m) (join_by op p q)
    unfolding weight ceiling terms
    joined_counted Minus fits small =
        record {
          rising = joined_rises (join_by Minus) p q (join_fits Minus) fits c.rising d.rising;
          counts = λ rank lt. sym (joined_counts (join_by Minus) p q c.rising d.rising rank ∙ rw (← c.counts rank lt, ← d.counts rank lt));
          few = join_few (join_by Minus);
        }
    joined_counted Plus fits small =
        record {
          rising = joined_rises (join_by Plus) p q (join_fits Plus) fits c.rising d.rising;
          counts = λ rank lt.
              let i = weight_le n (bound env) rank a in
              let j = weight_le n (bound env) rank b in
              sym (joined_counts (join_by Plus) p q c.rising d.rising rank
              ∙ rw (← c.counts rank lt, ← d.counts rank lt, le-leb (weight n (bound env) rank a + weight n (bound env) rank b) 65535 (omega arith)));
          few = join_few (join_by Plus);
        }

-- ---- a factor times the expression that was listed, and two listed one after the other
module _ (n : Net) (env : List ℕ) (count : ℕ) (room : List Arc) (inner : ℕ → Answer Expression) (at next : ℕ) (room₁ : List Arc) (p : Multiset)
    (first : ListedTold n env count room room₁ p (inner next)) where
  pub times_listed : (factor : ℕ) (run : List Arc) → run ≡ times_all factor (take p.many room₁)
      → ListedTold n env count room (put_mid 0 p.many room₁ run) (record { many = p.many; rest = limit (factor * p.rest); next = p.next }) (capped at (under (times factor) (inner next)))
  unfolding terms
  times_listed factor run scaled =
      let room₂ = put_mid 0 p.many room₁ run in
      times_by (ListedTold n env count room room₂ (record { many = p.many; rest = limit (factor * p.rest); next = p.next })) (λ k i. tt) at inner next factor
      (λ a end e small i.
      let told : ListedTold n env count room room₁ p (fine a end) = subst (ListedTold n env count room room₁ p) e first in
      let g = told i in
      let is : run ≡ times_all factor g.list = scaled ∙ ap (times_all factor) g.lie.are in
      let fits : length run ≡ p.many = ap length is ∙ times_few factor g.list ∙ sym g.lie.many in
      record {
        list = times_all factor g.list;
        lie = subst (λ xs. Laid xs room room₂ p.many) is (laid_front g.lie (omega (arith, g.lie.many, g.lie.size, g.counted.few)) fits);
        counted = times_counted n env count factor a g.list p.rest small g.counted;
        after = g.after;
      })

  -- where both were listed, and their terms joined
  module _ (part : List Arc) (q : Multiset) (second : ListedTold n env count (behind p.many room₁) part q (inner p.next)) (op : Operator) (fits : p.rest ≤ 65535)
      (room₃ : List Arc) (r : ℕ) (merged : Merged op p.rest q.rest p.many q.many (changed p.many room₁ part) room₃ r) where
    abbrev whole : Multiset
    whole = record { many = r; rest = join_by op p.rest q.rest; next = q.next }

    both_listed : (a b : Expression) (mid end : ℕ) → Listed n env count room room₁ p a mid → Listed n env count (behind p.many room₁) part q b end
        → ceiling (joins op a b) ≤ 65535 → 2 * (terms a + terms b) ≤ length room → Listed n env count room room₃ whole (joins op a b) end
    both_listed a b mid end g h small i =
        record {
          list = joined (join_by op) p.rest q.rest g.list h.list;
          lie = laid_merged op p.rest q.rest count g.lie h.lie g.counted.rising h.counted.rising (omega (arith, i, g.counted.few, h.counted.few)) merged;
          counted = joined_counted n env count a b g.list h.list p.rest q.rest g.counted h.counted op fits small;
          after = h.after;
        }

    joins-terms : (o : Operator) (a b : Expression) → terms (joins o a b) ≡ terms a + terms b
    unfolding terms
    joins-terms Plus a b = refl
    joins-terms Minus a b = refl

    pub joined_listed : ListedTold n env count room room₃ whole (capped at (two_of inner (joins op) next))
    joined_listed =
        joined_by (ListedTold n env count room room₃ whole) (λ k i. tt) at inner next (joins op)
        (λ a b mid end e f small i.
        let t = joins-terms op a b in
        let told : ListedTold n env count room room₁ p (fine a mid) = subst (ListedTold n env count room room₁ p) e first in
        let g = told (omega (arith, t, i)) in
        let left : List Arc = behind p.many room₁ in
        let told' : ListedTold n env count left part q (fine b end) = subst (ListedTold n env count left part q) (ap inner g.after ∙ f) second in
        let h = told' (omega (arith, t, i, laid_left g.lie, g.counted.few)) in
        both_listed a b mid end g h small (omega (arith, t, i)))

-- ---- a count of one rank
abbrev pub OneTerm : Answer Expression → Type 0
OneTerm (fine e next) = terms e ≡ 1
OneTerm (fault number place) = Unit {0}

pub amount-term : (n : Net) (inner : ℕ → Answer Colour) (place : Place) (count at next : ℕ) → OneTerm (amount n inner place count at next)
unfolding terms
amount-term n inner (single set) count at next = one_by OneTerm (λ k p. tt) at n inner count next set (λ k end e. refl)
amount-term n inner (pair set other) count at next = two_by OneTerm (λ k p. tt) at n inner count next set other (λ a b mid end e f. refl)

-- it was stored, where its rank is below the number
module _ (n : Net) (env : List ℕ) (count : ℕ) (room room' : List Arc) (many : ℕ) (k : Ranked) (number : ℕ) (fits : number ≤ 65535)
    (inside : k.rank < count → 0 < length room → Laid (term k.rank number ∷ []) room room' many)
    (outside : count ≤ k.rank → (room' ≡ room) × (many ≡ 0)) where
  one_listed : (x : Answer Expression) → OneTerm x → Ranks n env number k x → ListedTold n env count room room' (record { many = many; rest = 0; next = k.next }) x
  one_listed (fine e next) t h = λ i. go (ltb k.rank count) refl i
    where
      go : (b : Bool) → ltb k.rank count ≡ b → 2 * terms e ≤ length room → Listed n env count room room' (record { many = many; rest = 0; next = k.next }) e next
      go true f i =
          let lt = ltb-true k.rank count f in
          record {
            list = term k.rank number ∷ [];
            lie = inside lt (omega (arith, t));
            counted = here_counted n env count e k.rank number t h.1 lt fits;
            after = h.0;
          }
      go false f i =
          let le = ltb-false k.rank count f in
          record { list = []; lie = rw ((outside le).0, (outside le).1) (laid_none room); counted = past_counted n env count e k.rank number t h.1 le; after = h.0 }
  one_listed (fault i p) t h = tt

-- ---- by the byte that stands at a place
module _ (s : List ℕ) (n : Net) (env : List ℕ) (place : Place) (left at count : ℕ) (room : List Arc) where
  -- 0x41
  pub all_listed : byte_at s at ≡ 0x41 → ListedTold n env count room room (record { many = 0; rest = word_at s (at + 1); next = at + 3 }) (read_expression s n place left at)
  unfolding commands
  all_listed e =
      rw (expression_step s n place left at) (needed_by (ListedTold n env count room room (record { many = 0; rest = word_at s (at + 1); next = at + 3 })) (λ k p. tt) s at 0x41 _ e refl
      (λ i. record { list = []; lie = laid_none room; counted = all_counted n env count (word_at s (at + 1)); after = refl }))

  module _ (room' : List Arc) where
    -- the others, with so many levels left for what is inside
    inside : read_expression s n place (left + 1) at ≡ needed s (expression_commands s n place (left + 1) (read_expression s n place left) (read_colour s n left) at) at
    inside =
        let e : left + 1 - 1 ≡ left = omega arith in
        expression_in_lem s n place (left + 1) at (omega arith) ∙ ap (λ k. needed s (expression_commands s n place (left + 1) (read_expression s n place k) (read_colour s n k) at) at) e

    -- 0x40
    pub amount_listed : (many : ℕ) (k : Ranked) → word_at s (at + 1) ≤ 65535
        → (k.rank < count → 0 < length room → Laid (term k.rank (word_at s (at + 1)) ∷ []) room room' many)
        → (count ≤ k.rank → (room' ≡ room) × (many ≡ 0))
        → Ranks n env (word_at s (at + 1)) k (amount n (read_colour s n left) place (word_at s (at + 1)) at (at + 3)) → byte_at s at ≡ 0x40
        → ListedTold n env count room room' (record { many = many; rest = 0; next = k.next }) (read_expression s n place (left + 1) at)
    unfolding commands
    amount_listed many k fits under_count past h e =
        rw inside (needed_by (ListedTold n env count room room' (record { many = many; rest = 0; next = k.next })) (λ k p. tt) s at 0x40 _ e refl
        (one_listed n env count room room' many k (word_at s (at + 1)) fits under_count past
        (amount n (read_colour s n left) place (word_at s (at + 1)) at (at + 3)) (amount-term n (read_colour s n left) place (word_at s (at + 1)) at (at + 3)) h))

    module _ (r : Multiset) where
      -- 0x44
      pub times_told : byte_at s at ≡ 0x44 → ListedTold n env count room room' r (capped at (under (times (word_at s (at + 1))) (read_expression s n place left (at + 3))))
          → ListedTold n env count room room' r (read_expression s n place (left + 1) at)
      unfolding commands
      times_told e h = rw inside (needed_by (ListedTold n env count room room' r) (λ k p. tt) s at 0x44 _ e refl h)

      -- 0x42 and 0x43
      pub joined_told : (op : Operator) → byte_at s at ≡ byte_of op → ListedTold n env count room room' r (capped at (two_of (read_expression s n place left) (joins op) (at + 1)))
          → ListedTold n env count room room' r (read_expression s n place (left + 1) at)
      unfolding commands
      joined_told Minus e h = rw inside (needed_by (ListedTold n env count room room' r) (λ k p. tt) s at 0x43 _ e refl h)
      joined_told Plus e h = rw inside (needed_by (ListedTold n env count room room' r) (λ k p. tt) s at 0x42 _ e refl h)

    -- nothing is promised past the end, where no level is left for what is inside, and at a stray byte
    module _ (r : Multiset) where
      pub listed_past : length s ≤ at → ListedTold n env count room room' r (read_expression s n place left at)
      listed_past = expression_past (ListedTold n env count room room' r) (λ k p. tt) s n left at place

      pub listed_shut : left < 1 → (byte_at s at ≡ 0x41 → ⊥) → ListedTold n env count room room' r (read_expression s n place left at)
      listed_shut = expression_shut (ListedTold n env count room room' r) (λ k p. tt) s n left at place

      pub listed_stray : (byte_at s at ≡ 0x40 → ⊥) → (byte_at s at ≡ 0x41 → ⊥) → (byte_at s at ≡ 0x42 → ⊥) → (byte_at s at ≡ 0x43 → ⊥) → (byte_at s at ≡ 0x44 → ⊥)
          → ListedTold n env count room room' r (read_expression s n place left at)
      listed_stray = expression_stray (ListedTold n env count room room' r) (λ k p. tt) s n left at place
