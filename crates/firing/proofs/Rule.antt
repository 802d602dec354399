-- The firing rule over all flat places is the rule over a row's arcs. Assumes nothing.
use Rattle.std.specs.Prelude.{◌+◌, ◌-◌, ◌<◌, ◌&&◌, ◌||◌, ◌∷◌, if◌then◌else◌}
use mathlib.Core.Path.{◌≡◌, refl, sym, ap, ◌∙◌}
use native.Mathlib.Omega.{arith}
use native.Mathlib.Nat.{mod-eq_of_lt}
use Prim.Native.Nat.{◌≤◌}
use borrow.Author.Tests.{ltb-true, ltb-false, eqb-true, eqb-false}
use lib.ListN.{set, length-set, length-map}
use lib.Seq.{get_or-set_same, get_or-set_other, ext_get_or}
use Rattle.reading.specs.Basics.{ℕ, zero, suc, Bool, true, false, find, List, [], map, length, get_or, ltb, leb, eqb, any, below, numbers_from}
use Rattle.reading.proofs.Lists.{length-below, get_d_below}
use Rattle.firing.specs.Firing.{Weights, fired, lacks, hindered, capacity, moved, spills, Kept, fire}
use Rattle.firing.specs.Arcs.{Arc, Row, Rising, none, more, Proper, weight_in, weights}
use Rattle.firing.specs.internal.Steps.{lacking, hindering, spilling, SmallCapacities, changed, added}
use Rattle.firing.proofs.Rows.{In, here, there, in_inside, in_weight, weight_in_lem, weight_hit, weight_skip}

-- ---- tests that agree
-- each holds where the other does
pub alike : (s t : Bool) → (s ≡ true → t ≡ true) → (t ≡ true → s ≡ true) → s ≡ t
alike true t f g = sym (f refl)
alike false true f g = g refl
alike false false f g = refl

-- the first of two that hold
pub both_first : (s t : Bool) → (s && t) ≡ true → s ≡ true
both_first true t e = refl
both_first false t e = e

-- ---- a test of numbers
-- one of which it holds
pub some_from : (q : ℕ → Bool) (a n : ℕ) → any q (numbers_from a n) ≡ true → (p : ℕ) × (p < a + n) × (q p ≡ true)
unfolding any numbers_from
some_from q a zero e = let z : ◌≡◌ {A = ℕ} 0 1 = cc in absurd (omega arith)
some_from q a (suc n) e = go (q a) refl (some_from q (a + 1) n)
  where
    go : (t : Bool) → q a ≡ t → (any q (numbers_from (a + 1) n) ≡ true → (p : ℕ) × (p < a + 1 + n) × (q p ≡ true)) → (p : ℕ) × (p < a + suc n) × (q p ≡ true)
    go true h later = (a, omega arith, h)
    go false h later = let r = later (rw h at e) in (r.0, (let l = r.1 in omega arith), r.2)

-- it holds of some number if it holds of p
pub from_some : (q : ℕ → Bool) (a n p : ℕ) → a ≤ p → p < a + n → q p ≡ true → any q (numbers_from a n) ≡ true
unfolding any numbers_from
from_some q a zero p l h e = absurd (omega arith)
from_some q a (suc n) p l h e = go (eqb a p) refl (q a) refl (from_some q (a + 1) n p)
  where
    go : (s : Bool) → eqb a p ≡ s → (t : Bool) → q a ≡ t → (a + 1 ≤ p → p < a + 1 + n → q p ≡ true → any q (numbers_from (a + 1) n) ≡ true) → (q a || any q (numbers_from (a + 1) n)) ≡ true
    go true i t k later = let j = eqb-true a p i in rw (j, e)
    go false i true k later = rw k
    go false i false k later = rw k (let d = eqb-false a p i in later (omega (arith, d)) (omega arith) e)

-- it holds of none below n, so not of p
pub none_from : (q : ℕ → Bool) (n : ℕ) → any q (below n) ≡ false → (p : ℕ) → p < n → q p ≡ false
none_from q n e p h = go (q p) refl
  where
    go : (t : Bool) → q p ≡ t → q p ≡ false
    go true k = k ∙ sym (from_some q 0 n p (omega arith) (omega arith) k) ∙ e
    go false k = k

-- ---- a test of arcs
-- one of which it holds
pub some_arc : (t : Arc → Bool) (l : List Arc) → any t l ≡ true → (a : Arc) × In a l × (t a ≡ true)
unfolding any
some_arc t [] e = let z : ◌≡◌ {A = ℕ} 0 1 = cc in absurd (omega arith)
some_arc t (b ∷ l) e = go (t b) refl (some_arc t l)
  where
    go : (s : Bool) → t b ≡ s → (any t l ≡ true → (a : Arc) × In a l × (t a ≡ true)) → (a : Arc) × In a (b ∷ l) × (t a ≡ true)
    go true h later = (b, here, h)
    go false h later = let r = later (rw h at e) in (r.0, there r.1, r.2)

-- it holds of some arc if it holds of this one
pub arc_some : (t : Arc → Bool) {a : Arc} {l : List Arc} → In a l → t a ≡ true → any t l ≡ true
unfolding any
arc_some t here e = rw e
arc_some t (there {b = b} {l = l} i) e = go (t b) (arc_some t i e)
  where
    go : (s : Bool) → any t l ≡ true → (s || any t l) ≡ true
    go true h = refl
    go false h = h

-- a test of places that holds where an arc stands of which a test of arcs does, and nowhere else
pub record Shown (n : ℕ) (q : ℕ → Bool) (t : Arc → Bool) (l : List Arc) : Type 0 where
  pub rising : Rising n 0 l
  pub same : (a : Arc) → In a l → q a.place ≡ t a
  pub only : (p : ℕ) → p < n → q p ≡ true → 0 < weight_in l p

-- of all places it is the test of all arcs
pub by_arcs : {n : ℕ} {q : ℕ → Bool} {t : Arc → Bool} {l : List Arc} → Shown n q t l → any q (below n) ≡ any t l
by_arcs {n} {q} {t} {l} shown = alike (any q (below n)) (any t l) to from
  where
    to : any q (below n) ≡ true → any t l ≡ true
    to e =
        let x = some_from q 0 n e in
        let y = weight_in_lem l x.0 (shown.only x.0 (let h = x.1 in omega arith) x.2) in
        arc_some t y.1 (sym (shown.same y.0 y.1) ∙ ap q y.2 ∙ x.2)

    from : any t l ≡ true → any q (below n) ≡ true
    from e =
        let x = some_arc t l e in
        from_some q 0 n x.0.place (omega arith) (let h = in_inside x.1 shown.rising in omega arith) (shown.same x.0 x.1 ∙ x.2)

-- ---- the three tests, over all places and over the arcs
module _ (m : List ℕ) (row : Row) (proper : Proper (length m) row) where
  pub lacks_shown : Shown (length m) (lacks (weights row) m) (lacking m) row.takes
  lacks_shown =
      record {
        rising = proper.takes;
        same = λ a i. ap (ltb (get_or m a.place 0)) (in_weight i proper.takes);
        only = λ p i e. let h : get_or m p 0 < weight_in row.takes p = ltb-true _ _ e in omega arith;
      }

  -- where a take is lacking
  pub fires_3 : (caps : List ℕ) → any (lacking m) row.takes ≡ true → fired 3 m ≡ fire caps (weights row) m
  unfolding fire
  fires_3 caps e = simp (by_arcs lacks_shown ∙ e)

  pub hindered_shown : Shown (length m) (hindered (weights row) m) (hindering m) row.hinders
  hindered_shown =
      record {
        rising = proper.hinders;
        same = λ a i. ap (λ w. ltb 0 w && leb w (get_or m a.place 0)) (in_weight i proper.hinders);
        only = λ p i e. ltb-true 0 (weight_in row.hinders p) (both_first _ _ e);
      }

  pub spills_shown : (caps : List ℕ) → Kept caps m → Shown (length m) (spills caps (weights row) m) (spilling caps m row.takes) row.puts
  spills_shown caps kept =
      record {
        rising = proper.puts;
        same = λ a i. ap (λ w. ltb (capacity caps a.place) (get_or m a.place 0 - weight_in row.takes a.place + w)) (in_weight i proper.puts);
        only = λ p i e. let h : capacity caps p < moved (weights row) m p = ltb-true _ _ e in omega (arith, kept p i);
      }

-- ---- the change
-- it keeps the length
pub length-changed : (f : ℕ → ℕ → ℕ) (l : List Arc) (m : List ℕ) → length (changed f l m) ≡ length m
unfolding changed
length-changed f [] m = refl
length-changed f (a ∷ l) m = length-changed f l (set m a.place (f (get_or m a.place 0) a.weight)) ∙ length-set m a.place (f (get_or m a.place 0) a.weight)

-- below the place from which the arcs rise nothing changes
pub changed-below : (f : ℕ → ℕ → ℕ) {n from : ℕ} {l : List Arc} (m : List ℕ) (p : ℕ) → Rising n from l → p < from → get_or (changed f l m) p 0 ≡ get_or m p 0
unfolding changed
changed-below f m p none h = refl
changed-below f m p (more {a = a} i k w r) h =
    changed-below f (set m a.place (f (get_or m a.place 0) a.weight)) p r (omega arith)
    ∙ get_or-set_other m a.place p (f (get_or m a.place 0) a.weight) 0 (λ e. omega arith)

-- each count is changed by the weight at its place
pub changed_at : (f : ℕ → ℕ → ℕ) {n from : ℕ} {l : List Arc} (m : List ℕ) (p : ℕ) → length m ≡ n → Rising n from l → f (get_or m p 0) 0 ≡ get_or m p 0
    → get_or (changed f l m) p 0 ≡ f (get_or m p 0) (weight_in l p)
unfolding changed weight_in find
changed_at f m p e none still = sym still
changed_at f {n} m p e (more {a = a} {l = l} i k w r) still = go (eqb a.place p) refl (changed_at f m' p (length-set m a.place v ∙ e) r)
  where
    v : ℕ
    v = f (get_or m a.place 0) a.weight

    m' : List ℕ
    m' = set m a.place v

    go : (t : Bool) → eqb a.place p ≡ t → (f (get_or m' p 0) 0 ≡ get_or m' p 0 → get_or (changed f l m') p 0 ≡ f (get_or m' p 0) (weight_in l p)) → get_or (changed f l m') p 0 ≡ f (get_or m p 0) (weight_in (a ∷ l) p)
    go true h later =
        let q : a.place ≡ p = eqb-true a.place p h in
        changed-below f m' p r (omega arith)
        ∙ ap (λ j. get_or m' j 0) (sym q)
        ∙ get_or-set_same m a.place v 0 (omega arith)
        ∙ ap (λ j. f (get_or m j 0) a.weight) q
        ∙ ap (f (get_or m p 0)) (sym (weight_hit a l p q))
    go false h later =
        let d = eqb-false a.place p h in
        let same : get_or m' p 0 ≡ get_or m p 0 = get_or-set_other m a.place p v 0 (λ z. d (sym z)) in
        later (rw same still) ∙ ap (λ x. f x (weight_in l p)) same ∙ ap (f (get_or m p 0)) (sym (weight_skip a l p d))

-- the marking after all takes and then all puts
abbrev pub after : Row → List ℕ → List ℕ
after row m = changed added row.puts (changed ◌-◌ row.takes m)

module _ (m : List ℕ) (row : Row) (proper : Proper (length m) row) (fit : (p : ℕ) → get_or m p 0 < 65536) where
  -- each count after that is the rule's
  counts : (p : ℕ) → moved (weights row) m p < 65536 → get_or (after row m) p 0 ≡ moved (weights row) m p
  counts p h =
      let less : get_or (changed ◌-◌ row.takes m) p 0 ≡ get_or m p 0 - weight_in row.takes p = changed_at ◌-◌ m p refl proper.takes (omega arith) in
      let more : get_or (after row m) p 0 ≡ added (get_or (changed ◌-◌ row.takes m) p 0) (weight_in row.puts p) =
      changed_at added (changed ◌-◌ row.takes m) p (length-changed ◌-◌ row.takes m) proper.puts (omega (arith, fit p)) in
      more ∙ ap (λ x. added x (weight_in row.puts p)) less ∙ mod-eq_of_lt h

  module _ (caps : List ℕ) (small : SmallCapacities caps) where
    -- where no count passes its capacity the change is the rule's
    pub after_is : any (spills caps (weights row) m) (below (length m)) ≡ false → after row m ≡ map (moved (weights row) m) (below (length m))
    after_is e = ext_get_or 0 (after row m) (map (moved (weights row) m) (below (length m))) (long ∙ sym (length-map (below (length m)) (moved (weights row) m) ∙ length-below (length m))) each
      where
        long : length (after row m) ≡ length m
        long = length-changed added row.puts (changed ◌-◌ row.takes m) ∙ length-changed ◌-◌ row.takes m

        each : (p : ℕ) → p < length (after row m) → get_or (after row m) p 0 ≡ get_or (map (moved (weights row) m) (below (length m))) p 0
        each p h =
            let inside : p < length m = rw long at h in
            counts p (omega (arith, small p, ltb-false (capacity caps p) (moved (weights row) m p) (none_from (spills caps (weights row) m) (length m) e p inside)))
            ∙ sym (get_d_below (moved (weights row) m) (length m) p inside)

    -- the answer 0 changes the counts as the code does
    pub fires : {r : ℕ} → r ≡ (fire caps (weights row) m).answer → r ≡ 0 → fired r (after row m) ≡ fire caps (weights row) m
    unfolding fire
    fires {r} e z = go (any (lacks (weights row) m) (below (length m))) (any (hindered (weights row) m) (below (length m))) (any (spills caps (weights row) m) (below (length m))) refl e
      where
        go : (s t u : Bool) → any (spills caps (weights row) m) (below (length m)) ≡ u
            → r ≡ (if s then fired 3 m else if t then fired 4 m else if u then fired 5 m else fired 0 (map (moved (weights row) m) (below (length m)))).answer
            → fired r (after row m) ≡ (if s then fired 3 m else if t then fired 4 m else if u then fired 5 m else fired 0 (map (moved (weights row) m) (below (length m))))
        go true t u h a = absurd (omega arith)
        go false true u h a = absurd (omega arith)
        go false false true h a = absurd (omega arith)
        go false false false h a = rw (z, after_is h)

-- the rule's answers where no take is lacking
module _ (m : List ℕ) (row : Row) (proper : Proper (length m) row) (caps : List ℕ) (kept : Kept caps m) where
  pub answer_4 : any (lacking m) row.takes ≡ false → any (hindering m) row.hinders ≡ true → 4 ≡ (fire caps (weights row) m).answer
  unfolding fire
  answer_4 e f = simp (by_arcs (lacks_shown m row proper) ∙ e, by_arcs (hindered_shown m row proper) ∙ f)

  pub answer_5 : any (lacking m) row.takes ≡ false → any (hindering m) row.hinders ≡ false → any (spilling caps m row.takes) row.puts ≡ true
      → 5 ≡ (fire caps (weights row) m).answer
  unfolding fire
  answer_5 e f g = simp (by_arcs (lacks_shown m row proper) ∙ e, by_arcs (hindered_shown m row proper) ∙ f, by_arcs (spills_shown m row proper caps kept) ∙ g)

  pub answer_0 : any (lacking m) row.takes ≡ false → any (hindering m) row.hinders ≡ false → any (spilling caps m row.takes) row.puts ≡ false
      → 0 ≡ (fire caps (weights row) m).answer
  unfolding fire
  answer_0 e f g = simp (by_arcs (lacks_shown m row proper) ∙ e, by_arcs (hindered_shown m row proper) ∙ f, by_arcs (spills_shown m row proper caps kept) ∙ g)

-- any answer but 0 leaves the counts
pub rests : (caps : List ℕ) (w : Weights) (m : List ℕ) {r : ℕ} → r ≡ (fire caps w m).answer → (r ≡ 0 → ⊥) → fired r m ≡ fire caps w m
unfolding fire
rests caps w m {r} e z = go (any (lacks w m) (below (length m))) (any (hindered w m) (below (length m))) (any (spills caps w m) (below (length m))) e
  where
    go : (s t u : Bool) → r ≡ (if s then fired 3 m else if t then fired 4 m else if u then fired 5 m else fired 0 (map (moved w m) (below (length m)))).answer
        → fired r m ≡ (if s then fired 3 m else if t then fired 4 m else if u then fired 5 m else fired 0 (map (moved w m) (below (length m))))
    go true t u a = rw a
    go false true u a = rw a
    go false false true a = rw a
    go false false false a = absurd (z a)
