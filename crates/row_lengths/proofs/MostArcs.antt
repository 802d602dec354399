-- No binding gives an expression more arcs than its most. Assumes nothing.
use Rattle.std.specs.Prelude.{◌+◌, ◌-◌, ◌*◌, ◌&&◌, if◌then◌else◌}
use mathlib.Core.Path.{◌≡◌, refl, ap, ◌∙◌}
use Prim.Native.Nat.{◌≤◌, ◌<◌}
use native.Mathlib.Omega.{arith}
use borrow.Author.Tests.{ltb-true, ltb-false, eq-eqb}
use Rattle.reading.specs.Basics.{ℕ, zero, suc, Bool, true, false, some, length, ltb, leb, eqb, keep, numbers_from}
use Rattle.reading.proofs.Gives.{both_first, both_second}
use Rattle.net.specs.Net.{Expression, one, two, all, plus, minus, times, Place, Net, colours_of, ceiling}
use Rattle.net.specs.Values.{colour, pair_rank, weight}
use Rattle.net_file.specs.Formed.{Fitting, expression_formed}
use Rattle.sums.specs.internal.Loaded.{rank_arcs}
use Rattle.row_lengths.specs.internal.MostArcs.{others_of, of_one, most_less, most}
use Rattle.row_lengths.proofs.Ranges.{one_ranks, two_ranks}
use Rattle.multiset.proofs.Ranks.{ranks_skip, ranks_none, ranks_few}
use Rattle.multiset.proofs.Slots.{many, step, one_many}

-- ---- how many ranks have a weight
abbrev has : ℕ → ℕ
has w = if ltb 0 w then 1 else 0

has_either : (a b c : ℕ) → (a ≡ 0 → b ≡ 0 → c ≡ 0) → has c ≤ has a + has b
has_either a b c h = go (ltb 0 a) (ltb 0 b) (ltb 0 c) refl refl refl
  where
    go : (x y z : Bool) → ltb 0 a ≡ x → ltb 0 b ≡ y → ltb 0 c ≡ z → (if z then 1 else 0) ≤ (if x then 1 else 0) + (if y then 1 else 0)
    go x y false e f g = omega arith
    go true y true e f g = omega arith
    go false true true e f g = omega arith
    go false false true e f g =
        let i = ltb-false 0 a e in
        let j = ltb-false 0 b f in
        let k = ltb-true 0 c g in
        absurd (omega (arith, h (omega arith) (omega arith)))

has_few : (w : ℕ) → has w ≤ 1
has_few w = go (ltb 0 w)
  where
    go : (t : Bool) → (if t then 1 else 0) ≤ 1
    go true = omega arith
    go false = omega arith

module _ (start : ℕ) where
  -- no more than of two together, where a rank with a weight has one of the first or of the second
  either_many : (v w x : ℕ → ℕ) → ((r : ℕ) → v r ≡ 0 → w r ≡ 0 → x r ≡ 0) → (from n : ℕ) → many start x from n ≤ many start v from n + many start w from n
  unfolding keep numbers_from
  either_many v w x h from zero = omega arith
  either_many v w x h from (suc n) =
      omega (arith, step start v from n, step start w from n, step start x from n, has_either (v from) (w from) (x from) (h from), either_many v w x h (from + 1) n)

  -- no more than of another, where a rank with a weight has one of it
  less_many : (v x : ℕ → ℕ) → ((r : ℕ) → v r ≡ 0 → x r ≡ 0) → (from n : ℕ) → many start x from n ≤ many start v from n
  less_many v x h from n = omega (arith, either_many v (λ r. 0) x (λ r e f. h r e) from n, ap length (ranks_none start (λ r. 0) from n (λ r. refl)))

  -- where a rank has none, all but it
  module _ (w : ℕ → ℕ) (rank : ℕ) (empty : w rank ≡ 0) where
    but_at : (from k n : ℕ) → from + k ≡ rank → many start w from (k + suc n) ≤ k + n
    but_at from zero n e =
        let f : zero + suc n ≡ suc n = omega arith in
        let i : from ≡ rank = omega arith in
        rw f (omega (arith, ap length (ranks_skip start w from n (ap w i ∙ empty)), ranks_few start w (from + 1) n))
    but_at from (suc k) n e =
        let f : suc k + suc n ≡ suc (k + suc n) = omega arith in
        rw f (omega (arith, step start w from (k + suc n), has_few (w from), but_at (from + 1) k n (omega arith)))

    but_one : (ranks : ℕ) → rank < ranks → length (rank_arcs start ranks w) ≤ ranks - 1
    but_one ranks lt =
        let e : ranks ≡ rank + suc (ranks - (rank + 1)) = omega arith in
        omega (arith, ap (λ k. length (rank_arcs start k w)) e, but_at 0 rank (ranks - (rank + 1)) (omega arith))

  -- a count of every rank less a count of one of them
  module _ (rank number less : ℕ) where
    abbrev left : ℕ → ℕ
    left r = number - (if eqb rank r then less else 0)

    others_many : (ranks : ℕ) → rank < ranks → length (rank_arcs start ranks left) ≤ others_of ranks number less
    others_many ranks lt = go (ltb 0 number) refl (ltb less number) refl
      where
        go : (t : Bool) → ltb 0 number ≡ t → (u : Bool) → ltb less number ≡ u → length (rank_arcs start ranks left) ≤ (if t then (if u then ranks else ranks - 1) else 0)
        go true e true f = ranks_few start left 0 ranks
        go true e false f = let le = ltb-false less number f in but_one left rank (rw (eq-eqb rank rank refl) (omega arith)) ranks lt
        go false e u f = omega (arith, ap length (ranks_none start left 0 ranks (λ r. let h = ltb-false 0 number e in omega arith)))

-- ---- the most arcs
-- of an expression on a place, under colours of the variables' sets
module _ (start : ℕ) (n : Net) (env : ℕ → ℕ) (fits : Fitting n env) (p : Place) where
  abbrev ranks : ℕ
  ranks = colours_of n p

  abbrev gives : Expression → ℕ
  gives e = length (rank_arcs start ranks (λ rank. weight n env rank e))

  few : (e : Expression) → gives e ≤ ranks
  few e = ranks_few start (λ rank. weight n env rank e) 0 ranks

  -- every colour less an expression
  every_less : (number : ℕ) (b : Expression) → expression_formed n p b ≡ true → gives (minus (all number) b) ≤ most_less ranks ranks (some number) (of_one b)
  unfolding weight
  every_less number (one less k) f = others_many start (colour n env k) number less ranks (one_ranks n env fits p less k f)
  every_less number (two less k l) f = others_many start (pair_rank n env k l) number less ranks (two_ranks n env fits p less k l f)
  every_less number (all less) f = few (minus (all number) (all less))
  every_less number (plus a b) f = few (minus (all number) (plus a b))
  every_less number (minus a b) f = few (minus (all number) (minus a b))
  every_less number (times factor e) f = few (minus (all number) (times factor e))

  -- a difference
  less_most : (a b : Expression) → expression_formed n p b ≡ true → gives (minus a b) ≤ most ranks a → gives (minus a b) ≤ most ranks (minus a b)
  unfolding most
  less_most (one number k) b f h = h
  less_most (two number k l) b f h = h
  less_most (all number) b f h = every_less number b f
  less_most (plus a c) b f h = h
  less_most (minus a c) b f h = h
  less_most (times factor e) b f h = h

  pub arcs_most : (e : Expression) → expression_formed n p e ≡ true → gives e ≤ most ranks e
  unfolding weight most expression_formed
  arcs_most (one number k) f = one_many start (colour n env k) number 0 ranks
  arcs_most (two number a b) f = one_many start (pair_rank n env a b) number 0 ranks
  arcs_most (all number) f = few (all number)
  arcs_most (plus a b) f =
      let both = both_first (expression_formed n p a && expression_formed n p b) (leb (ceiling a + ceiling b) 65535) f in
      omega (
        arith,
        few (plus a b),
        either_many start (λ rank. weight n env rank a) (λ rank. weight n env rank b) (λ rank. weight n env rank (plus a b)) (λ r e f. omega arith) 0 ranks,
        arcs_most a (both_first (expression_formed n p a) (expression_formed n p b) both),
        arcs_most b (both_second (expression_formed n p a) (expression_formed n p b) both),
      )
  arcs_most (minus a b) f =
      let both = both_first (expression_formed n p a && expression_formed n p b) (leb (ceiling a) 65535) f in
      less_most a b (both_second (expression_formed n p a) (expression_formed n p b) both)
      (omega (
        arith,
        less_many start (λ rank. weight n env rank a) (λ rank. weight n env rank (minus a b)) (λ r e. omega arith) 0 ranks,
        arcs_most a (both_first (expression_formed n p a) (expression_formed n p b) both),
      ))
  arcs_most (times factor e) f =
      omega (
        arith,
        less_many start (λ rank. weight n env rank e) (λ rank. weight n env rank (times factor e)) (λ r z. rw z (omega arith)) 0 ranks,
        arcs_most e (both_first (expression_formed n p e) (leb (factor * ceiling e) 65535) f),
      )
