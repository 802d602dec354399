-- The search for the first order that fires, transition by transition. Assumes nothing.
use Rattle.std.specs.Prelude.{◌+◌, if◌then◌else◌}
use mathlib.Core.Path.{◌≡◌, refl, sym, ap, subst, ◌∙◌}
use Prim.Native.Nat.{◌≤◌, ◌<◌}
use native.Mathlib.Omega.{arith}
use native.Mathlib.Nat.{add-zero}
use Rattle.reading.specs.Basics.{ℕ, zero, suc, Bool, true, false, List, map, some, length, get_elem?, eqb, numbers_from, below, product}
use Rattle.reading.proofs.Lists.{at_in, at_map}
use lib.ListN.{length-map}
use Rattle.firing.specs.Firing.{First, found, nothing, one_more, first}
use Rattle.firing.proofs.Running.{Searching, search_begin, search_none, Tried, Stretch, stretch}
use Rattle.net.specs.Net.{Net, sizes_of, transition_at}
use Rattle.bindings.specs.Effect.{bindings}
use Rattle.bindings.specs.Orders.{order_of, fire_order}
use Rattle.bindings.specs.internal.Numbers.{before}
use Rattle.prepared.proofs.Known.{its_limits}
use Rattle.prepared.specs.internal.Prepared.{Prepared}
use Rattle.bindings.specs.internal.Bindings.{fire_binding, numbered}
use Rattle.bindings.proofs.NamedOrders.{order_names}
use Rattle.bindings.proofs.Digits.{bindings_at, before_next, before_all}
use Rattle.rows.proofs.Fires.{names}

-- none of the bindings of the transitions before t fires; so many were tried
pub record Seeking (n : Net) (m : List ℕ) (tried t : ℕ) : Type 0 where
  pub none : Searching (λ order. eqb (fire_order n order m).answer 0) (map order_of (bindings n)) tried
  pub at : tried ≡ before n t

pub seek_begin : (n : Net) (m : List ℕ) → Seeking n m 0 0
seek_begin n m = record { none = search_begin _ _; at = refl }

-- a search of so many numbers from a on tries each up to the one that it finds, or all
abbrev Counted : ℕ → ℕ → First ℕ → Type 0
Counted many a (found i tried) = (i + 1 ≡ a + tried) × (tried ≤ many)
Counted many a (nothing tried) = many ≡ tried

counted : (probe : ℕ → Bool) (many a : ℕ) → Counted many a (first probe (numbers_from a many))
unfolding first numbers_from
counted probe zero a = refl
counted probe (suc many) a = go (probe a) (first probe (numbers_from (a + 1) many)) (counted probe many (a + 1))
  where
    go : (t : Bool) (x : First ℕ) → Counted many (a + 1) x → Counted (suc many) a (if t then found a 1 else one_more x)
    go true x c = (refl, omega arith)
    go false (found i tried) c = (omega (arith, c.0), omega (arith, c.1))
    go false (nothing tried) c = omega arith

module _ {s plan : List ℕ} {n : Net} (ready : Prepared s n plan) (m : List ℕ) (t tried : ℕ) (inside : t < length n.transitions) (here : Seeking n m tried t) where
  abbrev many : ℕ
  many = product (sizes_of n (transition_at n t))

  -- each of its bindings is an order among all, answered as the binding is
  abbrev test : List ℕ → Bool
  test order = eqb (fire_order n order m).answer 0

  abbrev probe : ℕ → Bool
  probe j = eqb (fire_binding n (numbered n t j) m).answer 0

  tries : (j : ℕ) → j < 0 + many → Tried test (map order_of (bindings n)) tried (λ j. order_of (numbered n t j)) probe j
  tries j few =
      let at = bindings_at n t j inside (omega arith) in
      let there : get_elem? (bindings n) (tried + j) ≡ some (numbered n t j) = ap (λ k. get_elem? (bindings n) (k + j)) here.at ∙ at in
      record {
        at = at_map order_of (bindings n) (tried + j) there;
        tells = ap (λ f. eqb f.answer 0) (sym (names n (order_of (numbered n t j)) m (order_names n (its_limits ready).few_variables (at_in (bindings n) (before n t + j) at))));
      }

  whole : Stretch test (map order_of (bindings n)) tried (λ j. order_of (numbered n t j)) probe (0 + many) (first probe (below many))
  whole = stretch test (map order_of (bindings n)) tried (λ j. order_of (numbered n t j)) probe many 0 (rw add-zero here.none) tries

  -- one of them fires
  pub seek_found : {i k : ℕ} → first probe (below many) ≡ found i k → (first test (map order_of (bindings n)) ≡ found (order_of (numbered n t i)) (tried + k)) × (i < many)
  seek_found {i} {k} is =
      let c : Counted many 0 (found i k) = subst (Counted many 0) is (counted probe many 0) in
      let e : tried + i + 1 ≡ tried + k = omega (arith, c.0) in
      (rw e at (subst (Stretch test (map order_of (bindings n)) tried (λ j. order_of (numbered n t j)) probe (0 + many)) is whole), omega (arith, c.0, c.1))

  -- none does: the next transition
  pub seek_next : {k : ℕ} → first probe (below many) ≡ nothing k → Seeking n m (tried + k) (t + 1)
  seek_next {k} is =
      let c : many ≡ k = subst (Counted many 0) is (counted probe many 0) in
      let e : tried + (0 + many) ≡ tried + k = omega arith in
      record {
        none = rw e at (subst (Stretch test (map order_of (bindings n)) tried (λ j. order_of (numbered n t j)) probe (0 + many)) is whole);
        at = omega (arith, before_next n t inside, here.at);
      }

-- no transition is left
pub seek_none : (n : Net) (m : List ℕ) (t tried : ℕ) → Seeking n m tried t → t ≡ length n.transitions → first (λ order. eqb (fire_order n order m).answer 0) (map order_of (bindings n)) ≡ nothing tried
seek_none n m t tried here e =
    let all : length (map order_of (bindings n)) ≡ tried = length-map (bindings n) order_of ∙ sym (before_all n) ∙ ap (before n) (sym e) ∙ sym here.at in
    search_none _ _ here.none (omega arith) ∙ ap nothing all
