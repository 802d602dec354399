-- Two runs of terms joined in a lent list. Assumes nothing.
use Rattle.std.specs.Prelude.{◌+◌, ◌-◌, ◌∷◌, ◌++◌}
use mathlib.Core.Path.{◌≡◌, refl, sym, ap, ap₂, subst, ◌∙◌}
use Prim.Native.Nat.{◌≤◌, ◌<◌}
use native.Mathlib.Omega.{arith}
use Rattle.std.proofs.Math.ListN.{length-append, length-map, length-drop}
use Rattle.std.proofs.lemmas.List.{append_assoc, map_more, drop_more, drop_all, get_or-drop, length-take-le, take-take, drop_at}
use Rattle.std.proofs.lemmas.List.Edits.{take-paste, length-paste}
use Rattle.reading.specs.Basics.{ℕ, zero, suc, List, [], map, length, get_or, take, drop}
use Rattle.firing.specs.declared.Arc.{Arc}
use Rattle.std.specs.List.{prefix_len, copy_within}
use Rattle.std.specs.Option.{is_some, unwrap_or}
use Rattle.std.specs.Int.{from_bool}
use Rattle.std.specs.Prelude.{Option, Some, None}
use Rattle.std.proofs.lemmas.List.Sums.{prefix_len-le-length, prefix_len_passes, prefix_len_stops}
use borrow.Author.Tests.{ltb-true, ltb-false}
use native.Mathlib.Numerals.{lt_of_le_of_ne}
use Rattle.reading.specs.Basics.{ltb}
use Rattle.firing.specs.internal.RowLists.{arcs_in}
use Rattle.arc_expressions.specs.declared.operator.Operator.{Operator}
use Rattle.runs.specs.internal.Terms.{term, Terms, none, more, joined, join_by, Laid, FirstCount, Apart}
use Rattle.runs.proofs.Laying.{behind, changed, laid_size, laid_both, laid_join, arcs_behind}
use Rattle.runs.proofs.Joining.{terms_split, terms_weight, terms_under, joined_few, joined_apart, joined_last, joined-first, joined_second, joined_both}

-- ---- terms of the second run alone, each joined with the count p of every rank of the first
module _ (f : ℕ → ℕ → ℕ) (p : ℕ) where
  pub rest_length : (m : List Arc) → length (joined f p 0 [] m) ≡ length m
  unfolding joined
  rest_length m = length-map m (λ b. term b.place (f p b.weight))

  pub rest_goes : {room₀ room part : List Arc} {end v : ℕ} (m : List Arc) (i w : ℕ) (d : Arc) → i < length m → Laid (joined f p 0 [] (take i m)) room₀ room end
      → w ≡ f p (get_or m i d).weight → end ≤ length room → Laid (term (get_or m i d).place w ∷ []) (behind end room) part v
      → Laid (joined f p 0 [] (take (i + 1) m)) room₀ (changed end room part) (end + v)
  unfolding joined
  rest_goes {room₀} {room} {part} {end} {v} m i w d h lie e le one =
      let next = map_more (λ b. term b.place (f p b.weight)) m i d h in
      subst (λ l. Laid l room₀ (changed end room part) (end + v)) (ap (λ v. map (λ b. term b.place (f p b.weight)) (take i m) ++ (term (get_or m i d).place v ∷ [])) e ∙ sym next) (laid_join lie le one)

-- ---- both runs
module _ (f : ℕ → ℕ → ℕ) (p q : ℕ) where
  -- the terms of the second below the first's next rank come before it
  pub joined_over : (a : Arc) (l m : List Arc) (n : ℕ) (d : Arc) → n ≤ length m → ((k : ℕ) → k < n → (get_or m k d).place < a.place)
      → joined f p q (a ∷ l) m ≡ joined f p 0 [] (take n m) ++ joined f p q (a ∷ l) (drop n m)
  unfolding joined
  joined_over a l m zero d h low = refl
  joined_over a l [] (suc n) d h low = absurd (omega arith)
  joined_over a l (b ∷ m) (suc n) d h low =
      joined_second f p q a l b m (low 0 (omega arith)) ∙ ap (λ r. term b.place (f p b.weight) ∷ r) (joined_over a l m n d (omega arith) (λ k lt. low (suc k) (omega arith)))

  -- then the first's next term: joined with the second's where that has its rank
  pub joined_alone : (a : Arc) (l m : List Arc) (d : Arc) → (0 < length m → a.place < (get_or m 0 d).place) → joined f p q (a ∷ l) m ≡ term a.place (f a.weight q) ∷ joined f p q l m
  joined_alone a l [] d above = joined_last f p q a l
  joined_alone a l (b ∷ m) d above = joined-first f p q a l b m (above (omega arith))

  pub joined_twice : (a : Arc) (l m : List Arc) (d : Arc) → 0 < length m → (get_or m 0 d).place ≡ a.place
      → joined f p q (a ∷ l) m ≡ term a.place (f a.weight (get_or m 0 d).weight) ∷ joined f p q l (drop 1 m)
  joined_twice a l [] d h e = absurd (omega arith)
  joined_twice a l (b ∷ m) d h e = joined_both f p q a l b m (sym e)

-- the terms of the first run up to i, and those of the second before the rest, were joined, as a front of both joined
pub record Merging (f : ℕ → ℕ → ℕ) (p q : ℕ) (first second : List Arc) (i : ℕ) (rest arcs : List Arc) (end : ℕ) : Type 0 where
  pub left : take end arcs ++ joined f p q (drop i first) rest ≡ joined f p q first second
  pub room : end + (length first - i) + length rest ≤ length first + length second

module _ (f : ℕ → ℕ → ℕ) (p q : ℕ) (first second : List Arc) where
  -- the next term of the first, whose rank the second's next term has or not
  joined_step : (a : Arc) (l beyond : List Arc) (o : Option ℕ) → FirstCount beyond a.place o → (0 < length beyond → a.place ≤ (get_or beyond 0 (term 0 0)).place)
      → joined f p q (a ∷ l) beyond ≡ term a.place (f a.weight (unwrap_or o q)) ∷ joined f p q l (drop (from_bool (is_some o)) beyond)
  joined_step a l beyond (Some w) (h, e, is) low = joined_twice f p q a l beyond (term 0 0) h e ∙ ap (λ v. term a.place (f a.weight v) ∷ joined f p q l (drop 1 beyond)) (sym is)
  joined_step a l beyond None not low = joined_alone f p q a l beyond (term 0 0) (λ h. lt_of_le_of_ne (low h) (λ e. not h (sym e)))

  step_room : (beyond : List Arc) (place : ℕ) (o : Option ℕ) → FirstCount beyond place o → from_bool (is_some o) ≤ length beyond
  step_room beyond place (Some w) (h, e, is) = h
  step_room beyond place None not = omega arith

  pub merging_goes : {rest room part part₁ : List Arc} {end v v₁ : ℕ} (i n w : ℕ) (before beyond : List Arc) (o : Option ℕ) → Merging f p q first second i rest room end → i < length first
      → n ≡ prefix_len (λ b. ltb b.place (get_or first i (term 0 0)).place) rest → before ≡ take n rest → beyond ≡ drop n rest → FirstCount beyond (get_or first i (term 0 0)).place o
      → w ≡ f (get_or first i (term 0 0)).weight (unwrap_or o q)
      → end ≤ length room → Laid (joined f p 0 [] before) (behind end room) part v
      → end + v ≤ length room → (let room₁ = changed end room part in Laid (term (get_or first i (term 0 0)).place w ∷ []) (behind (end + v) room₁) part₁ v₁
      → Merging f p q first second (i + 1) (drop (from_bool (is_some o)) beyond) (changed (end + v) room₁ part₁) (end + v + v₁))
  merging_goes {rest} {room} {part} {part₁} {end} {v} {v₁} i n w before beyond o m lt en eb ed here ew le lower le₁ one =
      let a : Arc = get_or first i (term 0 0) in
      let low : n ≤ length rest = rw en (prefix_len-le-length (λ b. ltb b.place a.place) rest) in
      let less : (k : ℕ) → k < n → (get_or rest k (term 0 0)).place < a.place = λ k h. ltb-true _ _ (prefix_len_passes (λ b. ltb b.place a.place) rest k (term 0 0) (omega (arith, en))) in
      let not : 0 < length beyond → a.place ≤ (get_or beyond 0 (term 0 0)).place =
      λ h.
      let at : get_or beyond 0 (term 0 0) ≡ get_or rest (prefix_len (λ b. ltb b.place a.place) rest) (term 0 0) =
      ap (λ l. get_or l 0 (term 0 0)) ed ∙ get_or-drop n rest 0 (term 0 0) ∙ ap (λ k. get_or rest k (term 0 0)) (omega (arith, en)) in
      rw at (ltb-false _ _ (prefix_len_stops (λ b. ltb b.place a.place) rest (term 0 0) (omega (arith, en, ap length ed, length-drop n rest)))) in
      let put : joined f p q (drop i first) rest ≡ joined f p 0 [] before ++ (term a.place w ∷ joined f p q (drop (i + 1) first) (drop (from_bool (is_some o)) beyond)) =
      ap (λ l. joined f p q l rest) (drop_more first i (term 0 0) lt) ∙ joined_over f p q a (drop (i + 1) first) rest n (term 0 0) low less
      ∙ ap₂ ◌++◌ (ap (joined f p 0 []) (sym eb)) (
      ap (joined f p q (a ∷ drop (i + 1) first)) (sym ed) ∙ joined_step a (drop (i + 1) first) beyond o here not
      ∙ ap (λ v. term a.place v ∷ joined f p q (drop (i + 1) first) (drop (from_bool (is_some o)) beyond)) (sym ew)) in
      record {
        left =
            ap (λ r. r ++ joined f p q (drop (i + 1) first) (drop (from_bool (is_some o)) beyond))
            (laid_both (term a.place w ∷ []) (changed end room part) part₁ (end + v) v₁ (omega (arith, le₁, laid_size (joined f p 0 [] before) room part end v le lower)) one
            ∙ ap (λ r. r ++ (term a.place w ∷ [])) (laid_both (joined f p 0 [] before) room part end v le lower) ∙ append_assoc (take end room) (joined f p 0 [] before) (term a.place w ∷ []))
            ∙ append_assoc (take end room) (joined f p 0 [] before ++ (term a.place w ∷ [])) (joined f p q (drop (i + 1) first) (drop (from_bool (is_some o)) beyond))
            ∙ ap (λ v. take end room ++ v) (append_assoc (joined f p 0 [] before) (term a.place w ∷ []) (joined f p q (drop (i + 1) first) (drop (from_bool (is_some o)) beyond)) ∙ sym put) ∙ m.left;
        room =
            let k = step_room beyond a.place o here in
            let b : length before ≡ n = ap length eb ∙ length-take-le n rest low in
            omega (arith, m.room, lower.many, one.many, rest_length f p before, length-drop (from_bool (is_some o)) beyond, ap length ed, length-drop n rest);
      }

  pub merging_ends : {rest room₀ room part : List Arc} {end v i : ℕ} → Merging f p q first second i rest room end → length first ≤ i → length room ≡ length room₀
      → end ≤ length room → Laid (joined f p 0 [] rest) (behind end room) part v
      → Laid (joined f p q first second) room₀ (changed end room part) (end + v)
  unfolding joined
  merging_ends {rest} {room₀} {room} {part} {end} {v} {i} m h size le put =
      let is : take end room ++ joined f p 0 [] rest ≡ joined f p q first second = ap (λ l. take end room ++ joined f p q l rest) (sym (drop_all i first h)) ∙ m.left in
      record {
        are = laid_both (joined f p 0 [] rest) room part end v le put ∙ is;
        many = omega (arith, put.many, length-take-le end room le, length-append (take end room) (joined f p 0 [] rest), ap length is);
        size = laid_size (joined f p 0 [] rest) room part end v le put ∙ size;
      }

-- ---- two runs joined behind them, and moved down to the front
pub merged : (f : ℕ → ℕ → ℕ) (p q : ℕ) (room terms beyond beyond' : List Arc) (first both many : ℕ) → first ≤ both → both + both ≤ length room
    → terms ≡ take both room → beyond ≡ drop both room
    → (length (take first terms) + length (drop first terms) ≤ length beyond → Laid (joined f p q (take first terms) (drop first terms)) beyond beyond' many)
    → Laid (joined f p q (take first room) (arcs_in room first both)) room (copy_within (terms ++ beyond') both (both + many) 0) many
merged f p q room terms beyond beyond' first both many le fits et eb put =
    let lists : List Arc = terms ++ beyond' in
    let size_terms : length terms ≡ both = ap length et ∙ length-take-le both room (omega arith) in
    let size_behind = ap length eb ∙ length-drop both room in
    let size_first = length-take-le first terms (omega arith) in
    let size_second = length-drop first terms in
    let g = put (omega (arith, size_first, size_second, size_behind, size_terms)) in
    let few = joined_few f p q (take first terms) (drop first terms) in
    let n : both + many - both ≡ many = omega arith in
    let front : many ≡ 0 + (both + many - both) = omega arith in
    let rest : drop both lists ≡ beyond' = drop_at terms beyond' both size_terms in
    let size : length lists ≡ length room = omega (arith, length-append terms beyond', g.size, size_behind, size_terms) in
    let is : joined f p q (take first terms) (drop first terms) ≡ joined f p q (take first room) (arcs_in room first both) =
    ap (λ t. joined f p q (take first t) (drop first t)) et ∙ ap₂ (joined f p q) (take-take first both room le) (arcs_behind room first both le) in
    record {
      are =
          ap (λ k. take k (copy_within lists both (both + many) 0)) front
          ∙ take-paste lists 0 (drop both lists) (both + many - both) (omega arith) (omega (arith, g.many, few, size_first, size_second, size_terms, ap length rest, g.size, size_behind))
          ∙ ap₂ take n rest ∙ g.are ∙ is;
      many = g.many ∙ ap length is;
      size =
          length-paste lists 0 (drop both lists) (both + many - both) (omega (arith, g.many, few, size_first, size_second, size_terms, size))
          (omega (arith, g.many, few, size_first, size_second, size_terms, ap length rest, g.size, size_behind)) ∙ size;
    }

-- ---- runs that lie joined
pub apart_joined : (op : Operator) (first second : List Arc) (below p q : ℕ) → Terms below 0 first → Terms below 0 second → Apart op first second p q → joined (join_by op) p q first second ≡ first ++ second
apart_joined op [] second below p q t u h = rw (h.sum, h.none_first, h.none_second) (joined_apart {from = 0} {middle = 0} [] second none u)
apart_joined op (a ∷ l) [] below p q t u h = rw (h.sum, h.none_first, h.none_second) (joined_apart {count = below} {middle = below} (a ∷ l) [] t none)
apart_joined op (a ∷ l) (b ∷ m) below p q t u h =
    let low : Terms b.place 0 (a ∷ l) = terms_under (a ∷ l) b.place t (λ _. h.after (omega arith) (omega arith)) in
    let (x, y, v) = terms_split u in
    let high : Terms below b.place (b ∷ m) = more {a = b} (omega arith) y (terms_weight u) v in
    rw (h.sum, h.none_first, h.none_second) (joined_apart (a ∷ l) (b ∷ m) low high)
