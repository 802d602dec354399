-- How the table is filled, part by part, and what it then holds. Assumes nothing.
use Rattle.std.specs.Prelude.{◌+◌, ◌*◌, ◌/◌, ◌%◌, ◌∷◌, ◌++◌}
use mathlib.Core.Path.{◌≡◌, refl, sym, ap, subst, ◌∙◌}
use Prim.Native.Nat.{◌≤◌, ◌<◌}
use native.Mathlib.Omega.{arith}
use borrow.Author.Tests.{le-leb, le-ltb, ltb-true, ltb-false}
use lib.ListN.{set, length-map, length-drop, get_or-map, get_or-eq_default}
use lib.Seq.{length-take-le, ext_get_or, get_or-take, get_or-drop}
use Rattle.reading.specs.Basics.{ℕ, Bool, true, false, ltb, List, [], map, length, get_or, take, drop, below}
use Rattle.reading.proofs.Lists.{length-below, get_d_below}
use Rattle.net.specs.Net.{Net, in_transition, tokens_on, transition_at}
use Rattle.net.specs.internal.ReaderEnums.{bits}
use Rattle.net_file.specs.Limits.{Limits}
use Rattle.net_transitions.proofs.Lent.{part_in}
use Rattle.plan.specs.internal.Layout.{up_to, low, arc_with, sets_in, variables_in, places_in, guards_in, own_in, packed_in, Placed}
use Rattle.plan.proofs.Sections.{Placing, placing_goes, own_at, guard_at, arc_at_lem}
use Rattle.net_parts.specs.internal.Tables.{count_of}
use Rattle.net_transitions.specs.internal.TransitionTables.{no_head}
use Rattle.net_transitions.specs.declared.transitions.Head.{Head}
use Rattle.net_file.specs.declared.file.Tables.{Tables}
use Rattle.net_file.specs.declared.file.Counts.{Counts}
use Rattle.net_file.specs.internal.NetTables.{NetHolds}
use Rattle.net_file.proofs.Limits.{limits}
use Rattle.prepared.specs.internal.Packed.{shape_in, holding, entries_of, Packed}
use Rattle.std.proofs.lemmas.List.{get_or_default}
use Rattle.prepared.proofs.Packing.{holding_at, entries_many, entry_at}
use Rattle.prepared.specs.internal.Drawing.{Drawing}
use Rattle.prepared.proofs.Tabled.{shapes, drawing}
use Rattle.prepared.specs.internal.TransitionVariables.{Owned}
use Rattle.prepared.specs.internal.Filled.{ListStands, guard_number, HeadsPlaced, ListsPlaced, ReadPacked, Readied}

-- ---- what each place is like
pub values_many : (f : ℕ → ℕ) (n : ℕ) → length (map f (below n)) ≡ n
values_many f n = length-map (below n) f ∙ length-below n

pub shaping_goes : {before now : List ℕ} {i : ℕ} (shape : ℕ → ℕ) (places x : ℕ) → Placing (λ x y. y ≡ x) 56 (map shape (below places)) before now i → i < places → places ≤ 32 → length before ≡ 3584
    → x ≡ shape i → Placing (λ x y. y ≡ x) 56 (map shape (below places)) before (set now (56 + i) x) (i + 1)
shaping_goes {i = i} shape places x here lt few room is =
    placing_goes x here (omega (arith, values_many shape places)) (omega (arith, values_many shape places))
    (λ other. is ∙ sym (get_or_default (map shape (below places)) i other 0 (omega (arith, values_many shape places)) ∙ get_d_below shape places i lt))

-- ---- what each transition begins with
pub record Heading (heads : List Head) (before now : List ℕ) (i : ℕ) : Type 0 where
  pub long : length now ≡ length before
  pub uses : (t : ℕ) → t < i → get_or now (88 + t) 0 ≡ (get_or heads t no_head).uses
  pub guards : (t : ℕ) → t < i → get_or now (120 + t) 0 ≡ guard_number (get_or heads t no_head).guard
  pub front : (j : ℕ) → j < 88 → get_or now j 0 ≡ get_or before j 0
  pub back : (j : ℕ) → 152 ≤ j → get_or now j 0 ≡ get_or before j 0

-- ---- the arcs
-- rows in entries that are the same
pub packed_same : {shape : ℕ → ℕ} {slots packed after : List ℕ} {places transitions : ℕ} → places ≤ 32 → transitions ≤ 32 → ((i : ℕ) → i < 3072 → get_or after i 0 ≡ get_or packed i 0)
    → Packed 32 shape slots packed places transitions → Packed 32 shape slots after places transitions
packed_same few few' held packs = record {
  row = λ t k lt of_three. record { entries = λ i less far. held (t * 96 + k * 32 + i) (omega arith) ∙ (packs.row t k lt of_three).entries i less far };
}

-- a part of 3,072 entries was lent and came back
pub part_at : (plan part rest : List ℕ) → length plan ≡ 3584 → length part ≡ 3072 → (i : ℕ) → i < 3072 → get_or (drop 512 (take 512 plan ++ (part ++ rest))) i 0 ≡ get_or part i 0
part_at plan part rest room long i lt = get_or-drop 512 (take 512 plan ++ (part ++ rest)) i 0 ∙ part_in plan part rest 512 i (omega arith) (omega arith)

-- each arc is told with what its place is like
pub packed_told : {shape : ℕ → ℕ} {slots : List ℕ} {places transitions : ℕ} (plan : List ℕ) → places ≤ 32 → ((p : ℕ) → p < places → get_or (places_in plan) p 0 ≡ shape p)
    → Packed 32 (λ p. p) slots (drop 512 plan) places transitions → Packed 134217728 shape slots (packed_in plan) places transitions
packed_told {shape} {slots} {places} plan few are packs = record {
  row = λ t k lt of_three. record { entries = λ i less far. told (t * 96 + k * 32) i far ((packs.row t k lt of_three).entries i less far) };
}
  where
    raw : (b i : ℕ) → get_or (drop 512 plan) (b + i) 0 ≡ get_or (entries_of 32 (λ p. p) slots b places) i 0
        → arc_with (places_in plan) (get_or (entries_of 32 (λ p. p) slots b places) i 0) ≡ get_or (packed_in plan) (b + i) 0
    raw b i is = ap (arc_with (places_in plan)) (sym is ∙ get_or-drop 512 plan (b + i) 0) ∙ arc_at_lem plan (b + i)

    told : (b i : ℕ) → i ≤ length (holding slots b places) → get_or (drop 512 plan) (b + i) 0 ≡ get_or (entries_of 32 (λ p. p) slots b places) i 0
        → get_or (packed_in plan) (b + i) 0 ≡ get_or (entries_of 134217728 shape slots b places) i 0
    told b i far is = sym (raw b i is) ∙ go (ltb i (length (holding slots b places))) refl
      where
        go : (t : Bool) → ltb i (length (holding slots b places)) ≡ t
            → arc_with (places_in plan) (get_or (entries_of 32 (λ p. p) slots b places) i 0) ≡ get_or (entries_of 134217728 shape slots b places) i 0
        go true e =
            let h = ltb-true i (length (holding slots b places)) e in
            let at = holding_at slots b places i h in
            let slot = get_or slots (b + at.place) 0 in
            let arc : get_or (entries_of 32 (λ p. p) slots b places) i 0 ≡ slot * 32 + at.place = entry_at slots b 32 (λ p. p) places i h at in
            let stands : (slot * 32 + at.place) / 32 ≡ slot = let lt = at.inside in omega arith in
            let place : (slot * 32 + at.place) % 32 ≡ at.place = let lt = at.inside in omega arith in
            ap (arc_with (places_in plan)) arc
            ∙ rw (le-ltb (slot * 32 + at.place) 1 (let held = at.held in omega arith), stands, place, are at.place at.inside) (sym (entry_at slots b 134217728 shape places i h at))
        go false e =
            let h = ltb-false i (length (holding slots b places)) e in
            let none : get_or (entries_of 32 (λ p. p) slots b places) i 0 ≡ 0 = get_or-eq_default (entries_of 32 (λ p. p) slots b places) 0 (omega (arith, entries_many slots b 32 (λ p. p) places)) in
            ap (arc_with (places_in plan)) none ∙ sym (get_or-eq_default (entries_of 134217728 shape slots b places) 0 (omega (arith, entries_many slots b 134217728 shape places)))

-- ---- the lists
-- a list stands after others are written behind it
stands_on : (from : ℕ) {at : ℕ} (values : List ℕ) {others a b : List ℕ} → Placed at others a b → from + length values ≤ at → ListStands from values a → ListStands from values b
stands_on from values placed le stands i lt = placed.kept.front (from + i) (omega arith) ∙ stands i lt

pub lists_placed : {sizes vars own p₀ p₁ p₂ p₃ p₄ : List ℕ} {heads : List Head} {transitions : ℕ}
    → length sizes ≤ 16 → length vars ≤ 32 → length own ≡ 128 → Placed 8 sizes p₀ p₁ → Placed 24 vars p₁ p₂ → HeadsPlaced heads p₂ p₃ → Placed 152 own p₃ p₄
    → ((n : Net) → n.sets ≡ sizes → n.variables ≡ vars → Limits n → length n.transitions ≡ transitions
    → ((t : ℕ) → t < length n.transitions → (get_or heads t no_head).uses ≡ bits (λ v. in_transition v (transition_at n t)) 32) → Owned n own)
    → ListsPlaced sizes vars heads transitions p₀ p₄
lists_placed {sizes} {vars} {own} {p₄ = p₄} few few' long a b c e owns =
    record {
      sets = stands_on 8 sizes e (omega arith) (λ i lt. c.others.front (8 + i) (omega arith) ∙ stands_on 8 sizes b (omega arith) a.values_are i lt);
      variables = stands_on 24 vars e (omega arith) (λ i lt. c.others.front (24 + i) (omega arith) ∙ b.values_are i lt);
      uses = λ t lt. e.kept.front (88 + t) (omega arith) ∙ c.uses_are t lt;
      guards = λ t lt. e.kept.front (120 + t) (omega arith) ∙ c.guards_are t lt;
      owned = λ n es ev l are used. record {
        slot = λ t k lt less. own_at p₄ (t * 4 + k) ∙ e.values_are (t * 4 + k) (omega (arith, l.transitions)) ∙ (owns n es ev l are used).slot t k lt less;
      };
      behind = λ i le. e.kept.back i (omega arith) ∙ c.others.back i (omega arith) ∙ b.kept.back i (omega arith) ∙ a.kept.back i (omega arith);
    }

-- ---- the whole table
-- the low bytes of a section that holds bytes
lows : (from count : ℕ) (values plan : List ℕ) → length values ≡ count → from + count ≤ length plan → ListStands from values plan → ((i : ℕ) → i < length values → get_or values i 0 < 256)
    → values ≡ map low (take count (drop from plan))
lows from count values plan many room stands small =
    ext_get_or 0 values (map low (take count (drop from plan))) (omega (arith, length-map (take count (drop from plan)) low, length-take-le count (drop from plan) (omega (arith, length-drop from plan))))
    (λ i lt. sym (get_or-map low (take count (drop from plan)) i 0 ∙ ap low (get_or-take count (drop from plan) i 0 (omega arith) ∙ get_or-drop from plan i 0 ∙ stands i lt) ∙ (let h = small i lt in omega arith)))

-- a count within its limit is read as it is
within : {most count entry : ℕ} → entry ≡ count → count ≤ most → count ≡ up_to most entry
within {most} {count} is le = rw (is, le-leb count most le)

-- the packed arcs are kept while the lists and the places are written
pub part_stays : {sizes vars read first second : List ℕ} {heads : List Head} {transitions : ℕ} (part : List ℕ) (shape : ℕ → ℕ) (places : ℕ) → places ≤ 32 → ((i : ℕ) → i < 3072 → get_or (drop 512 read) i 0 ≡ get_or part i 0)
    → ListsPlaced sizes vars heads transitions read first → Placed 56 (map shape (below places)) first second → (i : ℕ) → i < 3072 → get_or (drop 512 second) i 0 ≡ get_or part i 0
part_stays {read = read} {second = second} part shape places few stood lists placed i lt =
    get_or-drop 512 second i 0 ∙ placed.kept.back (512 + i) (omega (arith, values_many shape places)) ∙ lists.behind (512 + i) (omega arith) ∙ sym (get_or-drop 512 read i 0) ∙ stood i lt

-- the arcs were packed, then the lists were placed, the places, and the counts
module _ {s part initial : List ℕ} {t : Tables} {c : Counts} (packed : ReadPacked s t part initial c) (sized : length t.sizes ≡ 16) (many : length t.vars ≡ 32)
    {read first second plan : List ℕ} (long : length plan ≡ 3584) (stood : (i : ℕ) → i < 3072 → get_or (drop 512 read) i 0 ≡ get_or part i 0)
    (lists : ListsPlaced (take c.sets t.sizes) (take c.variables t.vars) t.heads c.transitions read first)
    (placed : Placed 56 (map (shape_in t.kinds t.starts) (below c.places)) first second)
    (counts : Placed 0 (c.sets ∷ c.variables ∷ c.places ∷ c.total ∷ c.transitions ∷ c.space ∷ 1 ∷ []) second plan) where
  abbrev n : Net
  n = packed.held.value

  abbrev h : NetHolds s n t packed.slots initial c
  h = packed.held.holds

  keeps : Limits n
  keeps = limits s n packed.held.read

  -- what stands before the places, and between them and the arcs, is as the lists left it
  low_kept : (i : ℕ) → 7 ≤ i → i < 56 → get_or plan i 0 ≡ get_or first i 0
  low_kept i le lt = counts.kept.back i le ∙ placed.kept.front i lt

  high_kept : (i : ℕ) → 88 ≤ i → i < 512 → get_or plan i 0 ≡ get_or first i 0
  high_kept i le lt = counts.kept.back i (omega arith) ∙ placed.kept.back i (omega (arith, values_many (shape_in t.kinds t.starts) c.places, h.started.few))

  shape_at : (p : ℕ) → p < c.places → get_or (places_in plan) p 0 ≡ shape_in t.kinds t.starts p
  unfolding places_in
  shape_at p lt =
      let few = h.started.few in
      get_or-drop 56 plan p 0 ∙ counts.kept.back (56 + p) (omega arith) ∙ placed.values_are p (omega (arith, values_many (shape_in t.kinds t.starts) c.places))
      ∙ get_d_below (shape_in t.kinds t.starts) c.places p lt

  arcs_told : Packed 134217728 (shape_in t.kinds t.starts) packed.slots (packed_in plan) c.places c.transitions
  arcs_told =
      packed_told plan h.started.few shape_at (packed_same h.started.few h.few_transitions
      (λ i lt. get_or-drop 512 plan i 0 ∙ counts.kept.back (512 + i) (omega arith) ∙ sym (get_or-drop 512 second i 0) ∙ part_stays part (shape_in t.kinds t.starts) c.places h.started.few stood lists placed i lt) packed.packs)

  count_is : (i : ℕ) → i < 7 → get_or plan (0 + i) 0 ≡ get_or (c.sets ∷ c.variables ∷ c.places ∷ c.total ∷ c.transitions ∷ c.space ∷ 1 ∷ []) i 0
  count_is i lt = counts.values_are i lt

  sets_many : length (take c.sets t.sizes) ≡ c.sets
  sets_many = length-take-le c.sets t.sizes (omega (arith, h.few_sets))

  variables_many : length (take c.variables t.vars) ≡ c.variables
  variables_many = length-take-le c.variables t.vars (omega (arith, h.few_variables))

  sets_same : n.sets ≡ sets_in plan
  unfolding sets_in
  sets_same =
      sym h.sets_are ∙ lows 8 c.sets (take c.sets t.sizes) plan sets_many (omega (arith, h.few_sets)) (λ i lt. low_kept (8 + i) (omega arith) (omega (arith, h.few_sets, sets_many)) ∙ lists.sets i lt)
      (subst (λ l. (i : ℕ) → i < length l → get_or l i 0 < 256) (sym h.sets_are) (λ i lt. omega (arith, (keeps.sizes i lt).1)))
      ∙ ap (λ c. map low (take c (drop 8 plan))) (sym (count_is 0 (omega arith)))

  variables_same : n.variables ≡ variables_in plan
  unfolding variables_in
  variables_same =
      sym h.variables_are
      ∙ lows 24 c.variables (take c.variables t.vars) plan variables_many (omega (arith, h.few_variables)) (λ i lt. low_kept (24 + i) (omega arith) (omega (arith, h.few_variables, variables_many)) ∙ lists.variables i lt)
      (subst (λ l. (i : ℕ) → i < length l → get_or l i 0 < 256) (sym h.variables_are) (λ i lt. omega (arith, keeps.variable_sets i lt, keeps.sets)))
      ∙ ap (λ c. map low (take c (drop 24 plan))) (sym (count_is 1 (omega arith)))

  few : length n.transitions ≤ 32
  few = omega (arith, h.transitions_are, h.few_transitions)

  guard_is : (u : ℕ) → u < length n.transitions → get_or (guards_in plan) u 0 ≡ guard_number (get_or t.heads u no_head).guard
  guard_is u lt = guard_at plan u ∙ high_kept (120 + u) (omega arith) (omega (arith, few)) ∙ lists.guards u (omega (arith, few))

  drawn_there : Drawing s n (sets_in plan) (variables_in plan) (guards_in plan) (packed_in plan)
  drawn_there =
      subst (λ l. Drawing s n l (variables_in plan) (guards_in plan) (packed_in plan)) sets_same
      (subst (λ l. Drawing s n n.sets l (guards_in plan) (packed_in plan)) variables_same (drawing s n h keeps (guards_in plan) (packed_in plan) guard_is arcs_told))

  owned : Owned n (own_in first)
  owned = lists.owned n (sym h.sets_are) (sym h.variables_are) keeps h.transitions_are (λ u lt. (h.holds u lt).used)

  pub readied : Readied s plan initial
  readied = record {
    value = n;
    prepared = record {
      read = packed.held.read;
      drawing = drawn_there;
      owned = record {
        slot = λ u k lt less. own_at plan (u * 4 + k) ∙ high_kept (152 + (u * 4 + k)) (omega arith) (omega (arith, few)) ∙ sym (own_at first (u * 4 + k)) ∙ owned.slot u k lt less;
      };
      shapes = λ p lt. shape_at p (omega (arith, h.started.are)) ∙ shapes s n h keeps p lt;
      flat_places_are = h.started.all ∙ within (count_is 3 (omega arith)) h.started.small;
      transitions_are = h.transitions_are ∙ within (count_is 4 (omega arith)) h.few_transitions;
    };
    marked = record {
      count = λ p rank lt less reached.
          let e = h.started.begin p (omega (arith, h.started.are)) in
          subst (λ x. get_or initial (x + rank) 0 ≡ count_of (tokens_on n.tokens p rank)) e (h.counts p rank lt less (omega arith));
    };
  }
