-- The place command: the sets that it names, and the colours of all places with one more. Assumes nothing.
use Rattle.std.specs.Prelude.{◌+◌, ◌&&◌, ◌∷◌, if◌then◌else◌}
use Rattle.std.specs.Prelude as std
use mathlib.Core.Path.{◌≡◌, refl, sym, ap, subst, ◌∙◌}
use native.Mathlib.Omega.{arith}
use Prim.Native.Nat.{◌≤◌, ◌<◌}
use borrow.Author.Tests.{le-leb, lt-leb, ltb-true, ltb-false, eqb-true, eqb-false, ne_eqb}
use Rattle.reading.specs.Basics.{ℕ, Bool, List, [], some, none, true, false, eqb, leb, ltb, length, every, map, sum, with, byte_at}
use Rattle.reading.specs.Reading.{fine, fault, Check, ◌unless◌}
use Rattle.reading.proofs.Commands.{end, other, past, Passes, Fails, standing_none, stands_cut, stands_fails, stands_goes}
use Rattle.reading.proofs.Within.{by_test}
use Rattle.net.specs.Net.{Net, Place, sets_of, colours_of, scope}
use Rattle.net.specs.Reader.{width_of}
use Rattle.net.specs.internal.ReaderEnums.{place_in}
use Rattle.net.specs.declared.PlaceSets.{PlaceSets}
use Rattle.net.specs.declared.PlaceSets.TheVariants.{One, Two}
use Rattle.net.proofs.Shut.{commands}
use Rattle.net_parts.specs.Parts.{place_part}
use Rattle.net_parts.specs.internal.Steps.{sets_named, colours_counted}

pub sum-with : {A : Type 0} (f : A → ℕ) (l : List A) (a : A) → sum (map f (with l a)) ≡ sum (map f l) + f a
sum-with f [] a = omega arith
sum-with f (x ∷ l) a = let e = sum-with f l a in omega arith

-- what is checked of a place, in order
abbrev pub checks : Net → List Place → Place → List Check
checks n places p =
    (5 unless every (λ set. ltb set (length n.sets)) (sets_of p)) ∷ (4 unless (ltb (length places) 32 && leb (sum (map (colours_of n) (with places p))) 4096)) ∷ []

-- how many operands its command has
abbrev pub operands : PlaceSets → ℕ
operands p = length (sets_of (place_in p))

-- what stands at a place, by the sets that it names
data NamedAt (s : List ℕ) (at : ℕ) : std.Option PlaceSets → Type 0 where
  not_here : (byte_at s at ≡ 0x12 → ⊥) → (byte_at s at ≡ 0x13 → ⊥) → NamedAt s at std.None
  named_one : byte_at s at ≡ 0x12 → NamedAt s at (std.Some (One (byte_at s (at + 1))))
  named_two : byte_at s at ≡ 0x13 → NamedAt s at (std.Some (Two (byte_at s (at + 1)) (byte_at s (at + 2))))

-- a place command: it is there, and what is read of it
pub record Placed (s : List ℕ) (at : ℕ) (p : PlaceSets) : Type 0 where
  pub inside : at < length s
  pub wide : width_of (byte_at s at) ≡ some (operands p)
  pub cut : length s < at + (1 + operands p) → (n : Net) (places : List Place) → place_part s n places at ≡ some (fault 2 (length s))
  pub fails : at + (1 + operands p) ≤ length s → (n : Net) (places : List Place) {k : ℕ} → Fails (checks n places (place_in p)) k → place_part s n places at ≡ some (fault k at)
  pub goes : at + (1 + operands p) ≤ length s → (n : Net) (places : List Place) → Passes (checks n places (place_in p))
      → place_part s n places at ≡ some (fine (with places (place_in p)) (at + (1 + operands p)))

-- a byte that is not 0 stands in the file
pub stands_in : (s : List ℕ) (at : ℕ) → 0 < byte_at s at → at < length s
stands_in s at lt = go (ltb at (length s)) refl
  where
    go : (b : Bool) → ltb at (length s) ≡ b → at < length s
    go true e = ltb-true at (length s) e
    go false e = omega (arith, past s at (ltb-false at (length s) e))

module _ (s : List ℕ) (at : ℕ) where
  named_at : NamedAt s at (sets_named s at)
  unfolding sets_named
  named_at = by_test (NamedAt s at) (eqb (byte_at s at) 0x12) (λ e. named_one (eqb-true (byte_at s at) 0x12 e))
      (λ e. by_test (NamedAt s at) (eqb (byte_at s at) 0x13) (λ f. named_two (eqb-true (byte_at s at) 0x13 f))
      (λ f. not_here (eqb-false (byte_at s at) 0x12 e) (eqb-false (byte_at s at) 0x13 f)))

  none_at : NamedAt s at std.None → (n : Net) (places : List Place) → place_part s n places at ≡ none
  unfolding commands place_part
  none_at (not_here e f) n places = standing_none _ _ _ (other (ne_eqb (byte_at s at) 0x12 e) (other (ne_eqb (byte_at s at) 0x13 f) end))

  placed_at : {p : PlaceSets} → NamedAt s at (std.Some p) → Placed s at p
  unfolding commands place_part
  placed_at (named_one e) = record {
    inside = stands_in s at (omega arith);
    wide = ap width_of e;
    cut = λ lt n places. stands_cut _ _ 0x12 _ e refl lt;
    fails = λ le n places f. stands_fails _ _ 0x12 _ e refl le f;
    goes = λ le n places f. stands_goes _ _ 0x12 _ e refl le f;
  }
  placed_at (named_two e) = record {
    inside = stands_in s at (omega arith);
    wide = ap width_of e;
    cut = λ lt n places. stands_cut _ _ 0x13 _ e refl lt;
    fails = λ le n places f. stands_fails _ _ 0x13 _ e refl le f;
    goes = λ le n places f. stands_goes _ _ 0x13 _ e refl le f;
  }

  module _ {o : std.Option PlaceSets} (is : o ≡ sets_named s at) where
    pub not_named : o ≡ std.None → (n : Net) (places : List Place) → place_part s n places at ≡ none
    not_named e = none_at (subst (NamedAt s at) (sym is ∙ e) named_at)

    pub placed : {p : PlaceSets} → o ≡ std.Some p → Placed s at p
    placed e = placed_at (subst (NamedAt s at) (sym is ∙ e) named_at)

-- how many colours a place has
module _ (sets : List ℕ) (p : PlaceSets) {o : std.Option ℕ} (is : o ≡ colours_counted sets p) where
  pub not_counted : o ≡ std.None → every (λ set. ltb set (length sets)) (sets_of (place_in p)) ≡ false
  unfolding colours_counted
  not_counted e = go (every (λ set. ltb set (length sets)) (sets_of (place_in p))) (sym is ∙ e)
    where
      go : (b : Bool) → (if b then std.Some (colours_of (scope sets [] []) (place_in p)) else std.None) ≡ std.None → b ≡ false
      go true q = let z : ◌≡◌ {A = ℕ} 0 1 = cc in absurd (omega arith)
      go false q = refl

  pub counted : {k : ℕ} → o ≡ std.Some k → (every (λ set. ltb set (length sets)) (sets_of (place_in p)) ≡ true) × (k ≡ colours_of (scope sets [] []) (place_in p))
  unfolding colours_counted
  counted {k} e = go (every (λ set. ltb set (length sets)) (sets_of (place_in p))) (sym is ∙ e)
    where
      go : (b : Bool) → (if b then std.Some (colours_of (scope sets [] []) (place_in p)) else std.None) ≡ std.Some k → (b ≡ true) × (k ≡ colours_of (scope sets [] []) (place_in p))
      go true q = (refl, cc)
      go false q = let z : ◌≡◌ {A = ℕ} 0 1 = cc in absurd (omega arith)

-- whether one more place keeps the total
module _ (n : Net) (places : List Place) {total : ℕ} (e : sum (map (colours_of n) places) ≡ total) (p : Place) where
  pub one_fits : total + colours_of n p ≤ 4096 → leb (sum (map (colours_of n) (with places p))) 4096 ≡ true
  one_fits le = le-leb (sum (map (colours_of n) (with places p))) 4096 (rw (sum-with (colours_of n) places p) (omega arith))

  pub one_spills : 4096 < total + colours_of n p → leb (sum (map (colours_of n) (with places p))) 4096 ≡ false
  one_spills lt = lt-leb (sum (map (colours_of n) (with places p))) 4096 (rw (sum-with (colours_of n) places p) (omega arith))
