-- A sum of counts gone through operand after operand: what each step adds to the terms, and two runs joined. Assumes nothing.
use Rattle.std.specs.Prelude.{◌+◌, ◌-◌, ◌*◌, ◌&&◌, ◌∷◌, if◌then◌else◌}
use mathlib.Core.Path.{◌≡◌, refl, sym, ap, subst, ◌∙◌}
use Prim.Native.Nat.{◌≤◌, ◌<◌}
use native.Mathlib.Omega.{arith}
use borrow.Author.Tests.{le-leb, ne_eqb, lt-ltb, ltb-true, ltb-false}
use Rattle.reading.specs.Basics.{ℕ, zero, suc, Bool, true, false, List, [], Option, some, none, length, take, ltb, eqb, given, with, byte_at, word_at}
use Rattle.reading.specs.Reading.{Answer, fine, fault, under, Check, ◌unless◌, failing, Command, command, obey}
use Rattle.reading.proofs.Lists.{end, also}
use Rattle.std.proofs.lemmas.Bool.{false≢true}
use Rattle.reading.proofs.Commands.{known, needed_at}
use Rattle.reading.proofs.Keeps.{no_value, then_went, under_went, needed_went}
use Rattle.firing.specs.declared.Arc.{Arc}
use Rattle.net.specs.Net.{Colour, variable, constant, successor, predecessor, Expression, plus, Place, single, pair, Net, size_of, ceiling}
use Rattle.net.specs.Reader.{width_of, opening, colour_commands, read_colour, read_expression, amount}
use Rattle.net.specs.Values.{weight}
use Rattle.evaluation.specs.internal.Evaluated.{bound, Ranks}
use Rattle.evaluation.specs.declared.evaluate.Ranked.{Ranked}
use Rattle.net.proofs.Shut.{commands}
use Rattle.evaluation.proofs.Values.{needed_by, needed_each}
use Rattle.net.proofs.Colours.{colour_step}
use Rattle.arc_expressions.proofs.Expressions.{expression_in_lem}
use Rattle.evaluation.proofs.Weights.{weight_le, joined_by, expression_shut}
use Rattle.runs.specs.internal.Terms as spec
use Rattle.runs.specs.internal.Terms.{term, count_in, Terms, joined, join_by, Laid}
use Rattle.sums.specs.internal.Loaded.{terms, ListedTold}
use Rattle.sums.specs.internal.Sums.{InTurn, together, Summing, SumTold}
use Rattle.sums.specs.internal.Sums as sums
use Rattle.arc_expressions.specs.declared.operator.Operator.TheVariants.{Plus}
use Rattle.runs.proofs.Laying.{behind, changed, laid_none, laid_over, laid_left, Merged, laid_merged}
use Rattle.runs.proofs.Joining.{join_fits, joined_counts, joined_rises, joined_few}
use Rattle.sums.proofs.Listing.{amount-term, OneTerm}

-- ---- what is read with some levels left is read the same with more
-- one reading gives what another gives
abbrev Same : {A : Type 0} → Answer A → Answer A → Type 0
Same {A} x y = (a : A) (next : ℕ) → x ≡ fine a next → y ≡ fine a next

under_same : {A B : Type 0} (f : A → B) (x y : Answer A) → Same x y → Same (under f x) (under f y)
under_same f x y h b next e = under_went f x e (λ a p q. rw (h a next p) (ap (λ c. fine c next) q))

obey-same : {A : Type 0} (s : List ℕ) (at byte width : ℕ) (checks : List Check) (go went : ℕ → Answer A) → ((next : ℕ) → Same (go next) (went next))
    → Same (obey s at (command byte width checks go)) (obey s at (command byte width checks went))
unfolding obey
obey-same {A} s at byte width checks go went h a next e = by_length (ltb (length s) (at + (1 + width))) (failing checks) e
  where
    by_length : (t : Bool) (o : Option ℕ) → (if t then fault 2 (length s) else given o (go (at + (1 + width))) λ number. fault number at) ≡ fine a next
        → (if t then fault 2 (length s) else given o (went (at + (1 + width))) λ number. fault number at) ≡ fine a next
    by_length true o q = no_value q
    by_length false none q = h (at + (1 + width)) a next q
    by_length false (some k) q = no_value q

opening-same : {A : Type 0} (s : List ℕ) (at left more byte : ℕ) (checks : List Check) (go went : ℕ → Answer A) → ((next : ℕ) → Same (go next) (went next))
    → Same (obey s at (opening (suc left) byte checks go)) (obey s at (opening (suc more) byte checks went))
opening-same s at left more byte checks go went h =
    rw (lt-ltb 0 (suc left) (omega arith), lt-ltb 0 (suc more) (omega arith)) (obey-same s at byte (given (width_of byte) 0 λ width. width) (with checks (7 unless true)) go went h)

module _ (s : List ℕ) (n : Net) where
  colour_more : (left more at : ℕ) → left ≤ more → Same (read_colour s n left at) (read_colour s n more at)
  unfolding commands
  colour_more zero more at le k next e =
      needed_went s at (also (λ h p q. absurd (false≢true h.1.0)) (also (λ h p q. absurd (false≢true h.1.0)) (also (λ h p q. absurd (false≢true h.0)) (also (λ h p q. absurd (false≢true h.0)) end)))) (sym (colour_step s n zero at) ∙ e)
  colour_more (suc left) zero at le k next e = absurd (omega arith)
  colour_more (suc left) (suc more) at le k next e =
      needed_each (λ x. Same x (read_colour s n (suc more) at)) (λ number place k next e. no_value e) s at (colour_commands s n (suc left) (read_colour s n left) at) (
        λ b k next e. reads 0x30 b refl ∙ opening-same s at left more 0x30 ((5 unless ltb (byte_at s (at + 1)) (length n.variables)) ∷ []) (fine (variable (byte_at s (at + 1)))) (fine (variable (byte_at s (at + 1)))) (λ p k next e. e) k next e,
        (
          λ b k next e. reads 0x31 b refl ∙ opening-same s at left more 0x31 ((5 unless (ltb (byte_at s (at + 1)) (length n.sets) && ltb (byte_at s (at + 2)) (size_of n (byte_at s (at + 1))))) ∷ []) (fine (constant (byte_at s (at + 1)) (byte_at s (at + 2)))) (fine (constant (byte_at s (at + 1)) (byte_at s (at + 2)))) (λ p k next e. e) k next e,
          (
            λ b k next e. reads 0x32 b refl ∙ opening-same s at left more 0x32 [] _ _ (λ p. under_same successor (read_colour s n left p) (read_colour s n more p) (colour_more left more p (omega arith))) k next e,
            (λ b k next e. reads 0x33 b refl ∙ opening-same s at left more 0x33 [] _ _ (λ p. under_same predecessor (read_colour s n left p) (read_colour s n more p) (colour_more left more p (omega arith))) k next e, tt),
          ),
        ),
      ) k next (sym (colour_step s n (suc left) at) ∙ e)
    where
      reads : (byte : ℕ) {c : Command Colour} → byte_at s at ≡ byte → known (colour_commands s n (suc more) (read_colour s n more) at) byte ≡ some c → read_colour s n (suc more) at ≡ obey s at c
      reads byte b f = colour_step s n (suc more) at ∙ needed_at s at (colour_commands s n (suc more) (read_colour s n more) at) byte b f

  amount_more : (left more : ℕ) → left ≤ more → (place : Place) (number at next : ℕ) → Same (amount n (read_colour s n left) place number at next) (amount n (read_colour s n more) place number at next)
  amount_more left more le (single set) number at next e last q =
      then_went (read_colour s n left next) _ q (λ k end f g. rw (colour_more left more next le k end f) g)
  amount_more left more le (pair set other) number at next e last q =
      then_went (read_colour s n left next) _ q (λ a mid f g. then_went (read_colour s n left mid) _ g
      (λ b end i j. rw (colour_more left more next le a mid f, colour_more left more mid le b end i) j))

  -- ---- one operand, by the byte that stands there
  module _ (place : Place) where
    -- 0x40: its colours are read the same with 15 levels left
    count_read : (left at : ℕ) → left ≤ 16 → byte_at s at ≡ 0x40 → Same (read_expression s n place left at) (amount n (read_colour s n 15) place (word_at s (at + 1)) at (at + 3))
    unfolding commands
    count_read zero at le b = expression_shut (λ x. Same x (amount n (read_colour s n 15) place (word_at s (at + 1)) at (at + 3))) (λ number p k next e. no_value e) s n zero at place (omega arith) (λ e. omega arith)
    count_read (suc left) at le b =
        rw (expression_in_lem s n place (suc left) at (omega arith)) (needed_by (λ x. Same x (amount n (read_colour s n 15) place (word_at s (at + 1)) at (at + 3))) (λ number p k next e. no_value e) s at 0x40 _ b refl
        (amount_more (suc left - 1) 15 (omega arith) place (word_at s (at + 1)) at (at + 3)))

    -- 0x42: two more stand behind it
    record Halves (e : Expression) (at next : ℕ) : Type 0 where
      pub a : Expression
      pub b : Expression
      pub mid : ℕ
      pub left : ℕ
      pub is : e ≡ plus a b
      pub low : left ≤ 16
      pub first : read_expression s n place left at ≡ fine a mid
      pub second : read_expression s n place left mid ≡ fine b next
      pub small : ceiling e ≤ 65535

    abbrev HalvesOf : ℕ → Answer Expression → Type 0
    HalvesOf at (fine e next) = Halves e at next
    HalvesOf at (fault number p) = Unit {0}

    halves : (left at : ℕ) → left ≤ 16 → byte_at s at ≡ 0x42 → HalvesOf (at + 1) (read_expression s n place left at)
    unfolding commands
    halves zero at le b = expression_shut (HalvesOf (at + 1)) (λ number p. tt) s n zero at place (omega arith) (λ e. omega arith)
    halves (suc left) at le b =
        rw (expression_in_lem s n place (suc left) at (omega arith)) (needed_by (HalvesOf (at + 1)) (λ number p. tt) s at 0x42 _ b refl
        (joined_by (HalvesOf (at + 1)) (λ number p. tt) at (read_expression s n place (suc left - 1)) (at + 1) plus
        (λ a b mid end e f small. record { a = a; b = b; mid = mid; left = suc left - 1; is = refl; low = omega arith; first = e; second = f; small = small })))

-- ---- operands in turn
module _ (s : List ℕ) (n : Net) (place : Place) (env : List ℕ) where
  abbrev weights : ℕ → List Expression → ℕ
  weights rank es = together (weight n (bound env) rank) es

  weights_le : (rank : ℕ) (es : List Expression) → weights rank es ≤ together ceiling es
  weights_le rank [] = omega arith
  weights_le rank (e ∷ es) = let h = weight_le n (bound env) rank e in let i = weights_le rank es in omega arith

  -- a sum stands first: its two halves stand there in its stead
  record Opened (es : List Expression) (at stop : ℕ) : Type 0 where
    pub inner : List Expression
    pub turn : InTurn s n place inner (at + 1) stop
    pub many : length inner ≡ length es + 1
    pub weighs : (rank : ℕ) → weights rank inner ≡ weights rank es
    pub ceilings : together ceiling inner ≡ together ceiling es
    pub same : together terms inner ≡ together terms es

  opened : (e a b : Expression) (es : List Expression) (at stop : ℕ) → e ≡ plus a b → InTurn s n place (a ∷ b ∷ es) (at + 1) stop → Opened (e ∷ es) at stop
  unfolding weight ceiling terms
  opened e a b es at stop is t =
      rw is (record { inner = a ∷ b ∷ es; turn = t; many = omega arith; weighs = λ rank. omega arith; ceilings = omega arith; same = omega arith })

  opens : {es : List Expression} {at stop : ℕ} → InTurn s n place es at stop → 1 ≤ length es → byte_at s at ≡ 0x42 → Opened es at stop
  opens sums.none lt b = absurd (omega arith)
  opens {stop = stop} (sums.more {e = e} {es = es} {at = at} {next = next} left le reads t) lt b =
      let h : Halves s n place e (at + 1) next = subst (HalvesOf s n place (at + 1)) reads (halves s n place left at le b) in
      opened e h.a h.b es at stop h.is (sums.more h.left h.low h.first (sums.more h.left h.low h.second t))

  -- a count stands first: its one term, and the others
  record Taken (es : List Expression) (k : Ranked) (number stop : ℕ) : Type 0 where
    pub others : List Expression
    pub turn : InTurn s n place others k.next stop
    pub many : length es ≡ length others + 1
    pub weighs : (rank : ℕ) → weights rank es ≡ (if eqb k.rank rank then number else 0) + weights rank others
    pub ceilings : together ceiling others ≤ together ceiling es
    pub one : together terms es ≡ 1 + together terms others

  takes : {es : List Expression} {at stop : ℕ} (k : Ranked) → InTurn s n place es at stop → 1 ≤ length es → byte_at s at ≡ 0x40
      → Ranks n env (word_at s (at + 1)) k (amount n (read_colour s n 15) place (word_at s (at + 1)) at (at + 3)) → Taken es k (word_at s (at + 1)) stop
  takes k sums.none lt b told = absurd (omega arith)
  takes {stop = stop} k (sums.more {e = e} {es = es} {at = at} {next = next} left le reads t) lt b told =
      let read = count_read s n place left at le b e next reads in
      let ranks : Ranks n env (word_at s (at + 1)) k (fine e next) = subst (Ranks n env (word_at s (at + 1)) k) read told in
      let alone : OneTerm (fine e next) = subst OneTerm read (amount-term n (read_colour s n 15) place (word_at s (at + 1)) at (at + 3)) in
      record {
        others = es;
        turn = subst (λ p. InTurn s n place es p stop) (sym ranks.0) t;
        many = omega arith;
        weighs = λ rank. ap (λ w. w + weights rank es) (ranks.1 rank);
        ceilings = omega arith;
        one = omega (arith, alone);
      }

  -- ---- terms so far, and more behind them
  module _ (count : ℕ) where
    -- both joined: their counts are added up
    both_counted : {l m : List Arc} (es fs gs : List Expression) → Terms count 0 l → Terms count 0 m → together ceiling es ≤ 65535 → (rank : ℕ)
        → weights rank es ≡ count_in l 0 rank + weights rank fs → weights rank fs ≡ count_in m 0 rank + weights rank gs
        → weights rank es ≡ count_in (joined (join_by Plus) 0 0 l m) 0 rank + weights rank gs
    both_counted {l} {m} es fs gs t u small rank e f =
        let le = weights_le rank es in
        let sum : count_in (joined (join_by Plus) 0 0 l m) 0 rank ≡ count_in l 0 rank + count_in m 0 rank =
        joined_counts (join_by Plus) 0 0 t u rank ∙ rw (le-leb (count_in l 0 rank + count_in m 0 rank) 65535 (omega arith)) in
        omega arith

    module _ (at operands : ℕ) (room : List Arc) where
      -- nothing is gone through yet
      pub sum_begins : SumTold s n place env count at operands room room 0 at operands
      unfolding count_in
      sum_begins es stop t l small i =
          record { list = []; others = es; lie = laid_none room; rising = spec.none; turn = t; still = l; counted = λ rank lt. omega arith; few = omega arith; small = omega arith }

      module _ (room₁ : List Arc) (many next ahead : ℕ) (told : SumTold s n place env count at operands room room₁ many next ahead) where
        -- 0x42 opens two in the stead of one
        pub sum_opens : 1 ≤ ahead → byte_at s next ≡ 0x42 → SumTold s n place env count at operands room room₁ many (next + 1) (ahead + 1)
        sum_opens lt b es stop t l small i =
            let g = told es stop t l small i in
            let o = opens g.turn (omega (arith, g.still)) b in
            record {
              list = g.list;
              others = o.inner;
              lie = g.lie;
              rising = g.rising;
              turn = o.turn;
              still = omega (arith, o.many, g.still);
              counted = λ rank h. omega (arith, g.counted rank h, o.weighs rank);
              few = omega (arith, g.few, o.same);
              small = omega (arith, g.small, o.ceilings);
            }

        -- more terms are joined to those so far, and others are still to come
        joins_more : {m room' : List Arc} {next' ahead' many' : ℕ} (es others : List Expression) (stop : ℕ) (g : Summing s n place env count es stop room room₁ many next ahead)
            → together ceiling es ≤ 65535 → Terms count 0 m → InTurn s n place others next' stop → length others ≡ ahead'
            → ((rank : ℕ) → rank < count → weights rank g.others ≡ count_in m 0 rank + weights rank others) → length m + together terms others ≤ together terms g.others
            → together ceiling others ≤ together ceiling g.others → Laid (joined (join_by Plus) 0 0 g.list m) room room' many'
            → Summing s n place env count es stop room room' many' next' ahead'
        joins_more {m} es others stop g small rise t l w f c lie =
            record {
              list = joined (join_by Plus) 0 0 g.list m;
              others = others;
              lie = lie;
              rising = joined_rises (join_by Plus) 0 0 (join_fits Plus) (omega arith) g.rising rise;
              turn = t;
              still = l;
              counted = λ rank h. both_counted es g.others others g.rising rise small rank (g.counted rank h) (w rank h);
              few = omega (arith, joined_few (join_by Plus) 0 0 g.list m, g.few);
              small = omega (arith, g.small);
            }

        -- 0x40 adds its one term, or none where its rank is not below the number
        pub sum_takes : (room₂ : List Arc) (k : Ranked) (many' : ℕ) → 1 ≤ ahead → byte_at s next ≡ 0x40
            → Ranks n env (word_at s (next + 1)) k (amount n (read_colour s n 15) place (word_at s (next + 1)) next (next + 3))
            → word_at s (next + 1) ≤ 65535
            → (k.rank < count → many < length room₁ → Terms count 0 (take many room₁)
            → Laid (joined (join_by Plus) 0 0 (take many room₁) (term k.rank (word_at s (next + 1)) ∷ [])) room₁ room₂ many')
            → (count ≤ k.rank → (room₂ ≡ room₁) × (many' ≡ many))
            → SumTold s n place env count at operands room room₂ many' k.next (ahead - 1)
        unfolding count_in
        sum_takes room₂ k many' lt b ranked fits inside outside es stop t l small i = go (ltb k.rank count) refl (told es stop t l small i)
          where
            go : (y : Bool) → ltb k.rank count ≡ y → Summing s n place env count es stop room room₁ many next ahead → Summing s n place env count es stop room room₂ many' k.next (ahead - 1)
            go true f g =
                let h = ltb-true k.rank count f in
                let o = takes k g.turn (omega (arith, g.still)) b ranked in
                let are = g.lie.are in
                joins_more {m = term k.rank (word_at s (next + 1)) ∷ []} es o.others stop g small (spec.more {from = 0} {a = term k.rank (word_at s (next + 1))} (omega arith) h fits spec.none) o.turn (omega (arith, o.many, g.still))
                (λ rank _. o.weighs rank) (omega (arith, o.one)) o.ceilings
                (laid_over g.lie (rw are at (inside h (omega (arith, g.lie.many, g.lie.size, g.few, o.one)) (rw are g.rising))))
            go false f g =
                let h = ltb-false k.rank count f in
                let o = takes k g.turn (omega (arith, g.still)) b ranked in
                let same = outside h in
                record {
                  list = g.list;
                  others = o.others;
                  lie = rw (same.0, same.1) g.lie;
                  rising = g.rising;
                  turn = o.turn;
                  still = omega (arith, o.many, g.still);
                  counted = λ rank i. let z : (if eqb k.rank rank then word_at s (next + 1) else 0) ≡ 0 = rw (ne_eqb k.rank rank (λ e. omega arith)) refl in omega (arith, g.counted rank i, o.weighs rank);
                  few = omega (arith, g.few, o.one);
                  small = omega (arith, g.small, o.ceilings);
                }

        -- another run follows behind them, and both are joined
        pub sum-joins : (part : List Arc) (many₂ next₂ ahead₂ : ℕ) → SumTold s n place env count next ahead (behind many room₁) part many₂ next₂ ahead₂ → (room₃ : List Arc) (r : ℕ)
            → Merged Plus 0 0 many many₂ (changed many room₁ part) room₃ r → SumTold s n place env count at operands room room₃ r next₂ ahead₂
        sum-joins part many₂ next₂ ahead₂ follows room₃ r merged es stop t l small i =
            let g = told es stop t l small i in
            let h = follows g.others stop g.turn g.still (omega (arith, g.small)) (omega (arith, laid_left g.lie, g.few)) in
            joins_more es h.others stop g small h.rising h.turn h.still h.counted h.few h.small (laid_merged Plus 0 0 count g.lie h.lie g.rising h.rising (omega (arith, i, g.few, h.few)) merged)

    -- ---- the one expression that stands at a place
    -- nothing is to come: the terms are its own
    module _ (at : ℕ) (room room₁ : List Arc) (many next ahead : ℕ) (told : SumTold s n place env count at 1 room room₁ many next ahead) (b : byte_at s at ≡ 0x42) where
      alone : (e : Expression) (stop : ℕ) → read_expression s n place 16 at ≡ fine e stop → 2 * terms e ≤ length room
          → Summing s n place env count (e ∷ []) stop room room₁ many next ahead
      alone e stop reads i =
          let h : Halves s n place e (at + 1) stop = subst (HalvesOf s n place (at + 1)) reads (halves s n place 16 at (omega arith) b) in
          told (e ∷ []) stop (sums.more 16 (omega arith) reads sums.none) refl (omega (arith, h.small)) (omega arith)

      turn_none : {es : List Expression} {p stop : ℕ} → InTurn s n place es p stop → length es < 1 → (es ≡ []) × (p ≡ stop)
      turn_none sums.none lt = (refl, refl)
      turn_none (sums.more left le reads t) lt = absurd (omega arith)

      pub sum_listed : ahead < 1 → ListedTold n env count room room₁ (record { many = many; rest = 0; next = next }) (read_expression s n place 16 at)
      sum_listed lt = go (read_expression s n place 16 at) refl
        where
          go : (x : Answer Expression) → read_expression s n place 16 at ≡ x → ListedTold n env count room room₁ (record { many = many; rest = 0; next = next }) x
          go (fine e stop) reads = λ i.
              let g = alone e stop reads i in
              let z = turn_none g.turn (omega (arith, g.still)) in
              let few : length g.list + together terms [] ≤ terms e + 0 = subst (λ es. length g.list + together terms es ≤ terms e + 0) z.0 g.few in
              record {
                list = g.list;
                lie = g.lie;
                counted = record {
                  rising = g.rising;
                  counts = λ rank h.
                      let w : weight n (bound env) rank e + 0 ≡ count_in g.list 0 rank + weights rank [] = g.counted rank h ∙ ap (λ es. count_in g.list 0 rank + weights rank es) z.0 in
                      omega arith;
                  few = omega arith;
                };
                after = z.1;
              }
          go (fault number p) reads = tt
