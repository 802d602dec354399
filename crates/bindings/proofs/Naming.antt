-- The binding that an order names: by its command, its transition and its colours. Assumes nothing.
use Rattle.std.specs.Prelude.{◌+◌, Option, Some, None}
use mathlib.Core.Path.{◌≡◌, sym, ap, subst, ◌∙◌}
use Prim.Native.Nat.{◌≤◌, ◌<◌}
use Rattle.reading.specs.Basics.{ℕ, Bool, List, none, some, length, take, drop, byte_at, get_or}
use Rattle.net.specs.Net.{Net}
use Rattle.prepared.specs.internal.Prepared.{Prepared}
use Rattle.prepared.specs.internal.Drawn.{Drawn, net_of}
use Rattle.plan.specs.declared.own.Own.{Own}
use Rattle.prepared.proofs.Known.{its_limits, its_form}
use Rattle.bindings.specs.Orders.{fits, named}
use Rattle.bindings.specs.internal.Bindings.{binding}
use Rattle.bindings.specs.internal.Naming.{Names, NamedTold}
use Rattle.bindings.specs.declared.binding.Numbered.{Numbered}
use Rattle.bindings.specs.internal.SlotSteps.{Given}
use Rattle.bindings.proofs.Owning.{theirs, their_sizes, SlotTold}
use Rattle.bindings.proofs.Ordering.{named_unfit, named_fit}
use Rattle.bindings.proofs.Giving.{Giving, give_goes, give_fails, give_fits, give_number, give_binds}

-- so many slots have their colours
abbrev pub GivenTo : Net → List ℕ → ℕ → List ℕ → ℕ → ℕ → Type 0
GivenTo n order t env index k = Giving (theirs n t) (their_sizes n t) (drop 2 order) env index k

module _ (n : Net) (order : List ℕ) {s plan : List ℕ} (ready : Prepared s n plan) (six : length order ≡ 6) (opens : byte_at order 0 ≡ 0x60) {t : ℕ} (second : t ≡ byte_at order 1) (inside : t < length n.transitions) where
  below_it : byte_at order 1 < length n.transitions
  below_it = subst (λ k. k < length n.transitions) second inside

  fit_is : {r : Bool} → fits (their_sizes n t) (drop 2 order) ≡ r → fits (their_sizes n (byte_at order 1)) (drop 2 order) ≡ r
  fit_is e = rw (← second) e

  -- one slot more: its colour is one of its set, or not
  module _ {env : List ℕ} {index k colour : ℕ} (own : Option Own) (few : k < 4) (told : SlotTold n t k own) (byte : colour ≡ get_or order (2 + k) 0)
      (here : GivenTo n order t env index k) where
    pub name_goes : {after : List ℕ} {so_far : ℕ} → Given own colour index env after (Some so_far) → GivenTo n order t after so_far (k + 1)
    name_goes given = give_goes n t order six (its_limits ready) inside few byte here own told given

    pub name_fails : (after : List ℕ) → Given own colour index env after None → named n order ≡ none
    name_fails after given = named_unfit n order opens below_it (fit_is (give_fails n t order six (its_limits ready) inside few byte here after own told given))

  -- all four
  pub name_ends : {env : List ℕ} {index k : ℕ} → 4 ≤ k → GivenTo n order t env index k → Names n order t index env
  name_ends {env} {index} all here =
      let limits = its_limits ready in
      let (small, digits_are) = give_number n t order six limits inside all here in
      record {
        stands = inside;
        inside = small;
        is = named_fit n order opens below_it (fit_is (give_fits n t order six limits inside all here))
            ∙ ap (λ u. some (binding u (take (length (their_sizes n u)) (drop 2 order)))) (sym second)
            ∙ ap (λ l. some (binding t l)) (sym digits_are);
        binds = give_binds n t order six limits inside all here (its_form ready);
      }

-- ---- what was told
module _ (d : Drawn) (order env : List ℕ) {r : Option Numbered} where
  pub told_nothing : r ≡ None → NamedTold d order env r → named (net_of d) order ≡ none
  told_nothing e told = subst (NamedTold d order env) e told

  pub told_of : {b : Numbered} → r ≡ Some b → NamedTold d order env r → Names (net_of d) order b.transition b.index env
  told_of e told = subst (NamedTold d order env) e told
