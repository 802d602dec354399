-- The trees, arcs and tokens of an accepted net are formed. Assumes nothing.
use Rattle.std.specs.Prelude.{◌+◌, ◌&&◌, ◌||◌, ◌∷◌, if◌then◌else◌}
use mathlib.Core.Path.{◌≡◌, refl, sym, ap₂, ◌∙◌}
use mathlib.Core.List.Memᴰ
use Prim.Native.Nat.{◌≤◌, ◌<◌}
use native.Mathlib.Omega.{arith}
use borrow.Author.Tests.{ltb-true, leb-true, eq-eqb, not-true}
use Rattle.reading.specs.Basics.{ℕ, Bool, true, false, not, List, [], some, length, ltb, leb, eqb, any, every, find, absent, with, byte_at, word_at, Bytes}
use Rattle.reading.specs.Reading.{fault, under, accepted, refused, outcome, ◌unless◌, checked, whole, file}
use Rattle.reading.proofs.Lists.{In, in_cases, here, there, All, end, also, all_with, in_all, all_in, in_every, every_in}
use Rattle.reading.proofs.Commands.{both_hold}
use Rattle.reading.proofs.Gives.{both_first, both_second, Gives, gives, stops, GivesIf, anything, of_outcome, checked_gives, repeat_gives, then_gives, under_gives, standing_gives, given_gives, file_gives}
use Rattle.net.specs.Net.{Colour, variable, constant, successor, predecessor, Guard, always, opposite, both, either, equal, less, Expression, one, two, all, plus, minus, times, Place, Arc, Transition, Tokens, Net, net, sets_of, colours_of, place_at, arc_on, tokens_on, set_of, ceiling, variables_of, binding_space, scope}
use Rattle.net.specs.Reader.{read_expression, read_guard_if}
use Rattle.net_parts.specs.Parts.{set_part, variable_part, place_part, tokens_part}
use Rattle.net_transitions.specs.Transitions.{arc_part, ended, transition_part}
use Rattle.net_file.specs.NetFile.{content, read_net}
use Rattle.net_file.specs.Formed.{colour_formed, comparable, guard_formed, of_sets, expression_formed, once, arc_formed, same_arc, transition_formed, tokens_formed, same_tokens, Formed, Words}
use Rattle.net_file.proofs.Trees.{word_fits, guard_formed_lem, expression_sound}

-- ---- lists
every-same : {A : Type 0} (f g : A → Bool) (l : List A) → ((a : A) → f a ≡ g a) → every f l ≡ every g l
unfolding every
every-same f g [] h = refl
every-same f g (a ∷ l) h = ap₂ ◌&&◌ (h a) (every-same f g l h)

-- one more, which is not alike to any before it
any-with : {A : Type 0} (test : A → Bool) (l : List A) (b : A) → any test l ≡ false → test b ≡ false → any test (with l b) ≡ false
unfolding any
any-with test [] b e f = rw f
any-with test (a ∷ l) b e f = go (test a) e (λ q. any-with test l b q f)
  where
    go : (t : Bool) → t || any test l ≡ false → (any test l ≡ false → any test (with l b) ≡ false) → t || any test (with l b) ≡ false
    go true q ih = q
    go false q ih = ih q

once-with : {A : Type 0} (alike : A → A → Bool) (l : List A) (b : A) → once alike l ≡ true → absent (find (λ a. alike a b) l) ≡ true → once alike (with l b) ≡ true
unfolding once any find
once-with alike [] b e f = refl
once-with alike (a ∷ l) b e f = go (alike a b) refl f (once-with alike l b (both_second (not (any (alike a) l)) (once alike l) e))
  where
    go : (t : Bool) → alike a b ≡ t → absent (if t then some a else find (λ x. alike x b) l) ≡ true
        → (absent (find (λ x. alike x b) l) ≡ true → once alike (with l b) ≡ true) → not (any (alike a) (with l b)) && once alike (with l b) ≡ true
    go true p q ih = cc
    go false p q ih = rw (any-with (alike a) l b (not-true (any (alike a) l) (both_first (not (any (alike a) l)) (once alike l) e)) p, ih q)

-- ---- what is formed in one net is so in any other with the same sets, variables and places
module _ (n m : Net) (sets : n.sets ≡ m.sets) (variables : n.variables ≡ m.variables) where
  same_set : (k : Colour) → set_of n k ≡ set_of m k
  unfolding set_of
  same_set (variable v) = rw variables
  same_set (constant set c) = refl
  same_set (successor k) = same_set k
  same_set (predecessor k) = same_set k

  same-colour : (k : Colour) → colour_formed n k ≡ colour_formed m k
  unfolding colour_formed
  same-colour (variable v) = rw variables
  same-colour (constant set c) = rw sets
  same-colour (successor k) = same-colour k
  same-colour (predecessor k) = same-colour k

  same-comparable : (a b : Colour) → comparable n a b ≡ comparable m a b
  same-comparable a b = rw (same-colour a, same-colour b, same_set a, same_set b)

  same_guard : (g : Guard) → guard_formed n g ≡ guard_formed m g
  unfolding guard_formed
  same_guard always = refl
  same_guard (opposite g) = same_guard g
  same_guard (both a b) = ap₂ ◌&&◌ (same_guard a) (same_guard b)
  same_guard (either a b) = ap₂ ◌&&◌ (same_guard a) (same_guard b)
  same_guard (equal a b) = same-comparable a b
  same_guard (less a b) = same-comparable a b

  same_of_sets : (sets : List ℕ) (colours : List Colour) → of_sets n sets colours ≡ of_sets m sets colours
  unfolding of_sets
  same_of_sets [] [] = refl
  same_of_sets [] (k ∷ colours) = refl
  same_of_sets (set ∷ sets) [] = refl
  same_of_sets (set ∷ sets) (k ∷ colours) = rw (same-colour k, same_set k, same_of_sets sets colours)

  same_expression : (p : Place) (e : Expression) → expression_formed n p e ≡ expression_formed m p e
  unfolding expression_formed
  same_expression p (one count k) = same_of_sets (sets_of p) (k ∷ [])
  same_expression p (two count a b) = same_of_sets (sets_of p) (a ∷ b ∷ [])
  same_expression p (all count) = refl
  same_expression p (plus a b) = rw (same_expression p a, same_expression p b)
  same_expression p (minus a b) = rw (same_expression p a, same_expression p b)
  same_expression p (times factor e) = rw (same_expression p e)

  same_transition : n.places ≡ m.places → (t : Transition) → transition_formed n t ≡ transition_formed m t
  same_transition places t = rw (same_guard t.guard, every-same (arc_formed n) (arc_formed m) t.arcs (λ a. rw (same_expression (place_at n a.place) a.expression, places)))

-- ---- the parts of a file
-- a ceiling that is u16; every one of a transition
abbrev low : Arc → Bool
low a = leb (ceiling a.expression) 65535

record Arcs (s : List ℕ) (n : Net) (arcs : List Arc) : Type 0 where
  formed : All (λ a. arc_formed n a ≡ true) arcs
  single : once same_arc arcs ≡ true
  words : Bytes s → All (λ a. low a ≡ true) arcs

record Transitions (s : List ℕ) (n : Net) (transitions : List Transition) : Type 0 where
  formed : All (λ t. transition_formed n t ≡ true) transitions
  words : Bytes s → All (λ t. every low t.arcs ≡ true) transitions

record Marked (s : List ℕ) (n : Net) (tokens : List Tokens) : Type 0 where
  formed : All (λ t. tokens_formed n t ≡ true) tokens
  single : once same_tokens tokens ≡ true
  words : Bytes s → All (λ t. leb t.count 65535 ≡ true) tokens

module _ (s : List ℕ) (n : Net) where
  one_more : (arcs : List Arc) (kind p next : ℕ) → Arcs s n arcs → ltb p (length n.places) ≡ true → absent (arc_on arcs kind p) ≡ true
      → Gives (Arcs s n) (under (λ e. with arcs (record { kind = kind; place = p; expression = e })) (read_expression s n (place_at n p) 16 next))
  one_more arcs kind p next k here new = under_gives _ (expression_sound s n (place_at n p) 16 next) (λ e r. record {
    formed = all_with k.formed (both_hold _ _ here r.formed);
    single = once-with same_arc arcs (record { kind = kind; place = p; expression = e }) k.single new;
    words = λ bytes. all_with (k.words bytes) (r.word bytes);
  })

  arc_keeps : (arcs : List Arc) (at : ℕ) → Arcs s n arcs → GivesIf (Arcs s n) (arc_part s n arcs at)
  unfolding arc_part
  arc_keeps arcs at k = standing_gives s at
      (also (λ p next. one_more arcs 0x16 (byte_at s (at + 1)) next k p.0 p.1.0)
      (also (λ p next. one_more arcs 0x17 (byte_at s (at + 1)) next k p.0 p.1.0)
      (also (λ p next. one_more arcs 0x18 (byte_at s (at + 1)) next k p.0 p.1.0) end)))

  guard_if_formed : (at : ℕ) → Gives (λ g. guard_formed n g ≡ true) (read_guard_if s n at)
  unfolding read_guard_if guard_formed
  guard_if_formed at = given_gives s at (also (λ p next. guard_formed_lem s n 16 next) end) (gives refl)

  -- where a transition ends
  ended_gives : (transitions : List Transition) (at : ℕ) (t : Transition) (last : ℕ) → Transitions s n (with transitions t) → Gives (Transitions s n) (ended s n transitions at t last)
  ended_gives transitions at t last h = go (eqb (byte_at s last) 0x15)
    where
      go : (stray : Bool) → Gives (Transitions s n) (if stray then fault 3 last
          else checked at ((10 unless leb (length (variables_of n t)) 4) ∷ (11 unless leb (binding_space n (with transitions t)) 65536) ∷ []) (with transitions t) last)
      go true = stops
      go false = checked_gives at _ (with transitions t) last (λ p. h)

  transition_keeps : (transitions : List Transition) (at : ℕ) → Transitions s n transitions → GivesIf (Transitions s n) (transition_part s n transitions at)
  unfolding transition_part once
  transition_keeps transitions at k = standing_gives s at (also (λ p next.
      then_gives (guard_if_formed next) (λ guard more u.
      then_gives (repeat_gives (arc_part s n) arc_keeps _ [] more (record { formed = end; single = refl; words = λ bytes. end })) (λ arcs last v.
      ended_gives transitions at (record { guard = guard; arcs = arcs }) last (record {
        formed = all_with k.formed (both_hold _ _ (both_hold _ _ u (in_every (arc_formed n) v.formed)) v.single);
        words = λ bytes. all_with (k.words bytes) (in_every low (v.words bytes));
      })))) end)

  tokens_keep : (tokens : List Tokens) (at : ℕ) → Marked s n tokens → GivesIf (Marked s n) (tokens_part s n tokens at)
  unfolding tokens_part
  tokens_keep tokens at k = standing_gives s at (also (λ p next. gives (record {
    formed = all_with k.formed p.0;
    single = once-with same_tokens tokens (record { place = byte_at s (at + 1); rank = word_at s (at + 2); count = word_at s (at + 4) }) k.single p.1.0;
    words = λ bytes. all_with (k.words bytes) (word_fits s (at + 4) bytes);
  })) end)

-- a net that is read: formed, and of bytes with ceilings and counts that are u16
record Good (s : List ℕ) (n : Net) : Type 0 where
  formed : Formed n
  words : Bytes s → Words n

content_keeps : (s : List ℕ) (start : ℕ) → Gives (Good s) (content s start)
unfolding once
content_keeps s start =
    then_gives (anything (whole s (set_part s) [] start)) (λ sets at a.
    then_gives (anything (whole s (variable_part s (scope sets [] [])) [] at)) (λ variables at b.
    then_gives (anything (whole s (place_part s (scope sets variables [])) [] at)) (λ places at c.
    then_gives (repeat_gives _ (transition_keeps s (scope sets variables places)) _ [] at (record { formed = end; words = λ bytes. end })) (λ transitions at d.
    then_gives (repeat_gives _ (tokens_keep s (net sets variables places transitions [])) _ [] at (record { formed = end; single = refl; words = λ bytes. end })) (λ tokens at e.
    let n : Net = net sets variables places transitions tokens in
    gives (record {
      formed = record {
        transitions = in_every (transition_formed n) (in_all transitions (λ t m. sym (same_transition (scope sets variables places) n refl refl refl t) ∙ all_in d.formed m));
        tokens = in_every (tokens_formed n) e.formed;
        tokens_once = e.single;
      };
      words = λ bytes. record { ceilings = in_every (λ t. every low t.arcs) (d.words bytes); counts = in_every (λ t. leb t.count 65535) (e.words bytes) };
    }))))))

-- what a net file's reader accepts is formed; where the file is made of bytes, its ceilings and counts are u16
good : (s : List ℕ) (n : Net) → read_net s ≡ accepted n → Good s n
unfolding read_net
good s n e = go (ltb 16384 (length s)) e
  where
    go : (long : Bool) → (if long then refused 1 16384 else outcome (file 0x01 (1 ∷ []) (content s) 0x1F s)) ≡ accepted n → Good s n
    go true q = let z : ◌≡◌ {A = ℕ} 0 1 = cc in absurd (omega arith)
    go false q = of_outcome (file_gives 0x01 (1 ∷ []) (content s) 0x1F s (content_keeps s)) q

pub formed : (s : List ℕ) (n : Net) → read_net s ≡ accepted n → Formed n
formed s n e = (good s n e).formed

pub words : (s : List ℕ) (n : Net) → Bytes s → read_net s ≡ accepted n → Words n
words s n bytes e = (good s n e).words bytes

-- ---- what follows for each transition, arc and token
pub found_in : {A : Type 0} (test : A → Bool) (l : List A) {a : A} → find test l ≡ some a → In a l
unfolding find
found_in test [] e = let z : ◌≡◌ {A = ℕ} 0 1 = cc in absurd (omega arith)
found_in test (b ∷ l) {a} e = go (test b) e (found_in test l)
  where
    go : (t : Bool) → (if t then some b else find test l) ≡ some a → (find test l ≡ some a → In a l) → In a (b ∷ l)
    go true q ih = let p : a ≡ b = cc in rw p here
    go false q ih = there (ih q)

not_any : {A : Type 0} (test : A → Bool) (l : List A) {a : A} → any test l ≡ false → In a l → test a ≡ false
unfolding any
not_any test [] e i = absurd (Memᴰ.not-nil i)
not_any test (b ∷ l) {a} e i = in_cases (λ p. rw p (left (test b) e)) (λ k. not_any test l (right (test b) e) k) i
  where
    left : (t : Bool) → t || any test l ≡ false → t ≡ false
    left true q = q
    left false q = refl

    right : (t : Bool) → t || any test l ≡ false → any test l ≡ false
    right true q = cc
    right false q = q

-- an element is found by what it is alike to, where no two are alike
once_found : {A : Type 0} (alike : A → A → Bool) (l : List A) {a : A} → ((b : A) → alike b b ≡ true) → once alike l ≡ true → In a l → find (λ b. alike b a) l ≡ some a
unfolding once find
once_found alike [] r e i = absurd (Memᴰ.not-nil i)
once_found alike (x ∷ l) {a} r e i = in_cases {a = a} {b = x} (λ p. rw (p, r x))
    (λ k. rw (not_any (alike x) l (not-true (any (alike x) l) (both_first (not (any (alike x) l)) (once alike l) e)) k) (once_found alike l r (both_second (not (any (alike x) l)) (once alike l) e) k)) i

module _ {n : Net} (f : Formed n) where
  module _ {t : Transition} (i : In t n.transitions) where
    whole_transition : transition_formed n t ≡ true
    whole_transition = all_in (every_in (transition_formed n) n.transitions f.transitions) i

    abbrev tests : Bool
    tests = guard_formed n t.guard && every (arc_formed n) t.arcs

    guard_and_arcs : tests ≡ true
    guard_and_arcs = both_first tests (once same_arc t.arcs) whole_transition

    pub its_guard : guard_formed n t.guard ≡ true
    its_guard = both_first (guard_formed n t.guard) (every (arc_formed n) t.arcs) guard_and_arcs

    module _ {a : Arc} (j : In a t.arcs) where
      whole-arc : arc_formed n a ≡ true
      whole-arc = all_in (every_in (arc_formed n) t.arcs (both_second (guard_formed n t.guard) (every (arc_formed n) t.arcs) guard_and_arcs)) j

      -- an arc's place is there, its expression is formed, and it is the one of its kind on its place
      pub its_place : a.place < length n.places
      its_place = ltb-true a.place (length n.places) (both_first (ltb a.place (length n.places)) (expression_formed n (place_at n a.place) a.expression) whole-arc)

      pub its_expression : expression_formed n (place_at n a.place) a.expression ≡ true
      its_expression = both_second (ltb a.place (length n.places)) (expression_formed n (place_at n a.place) a.expression) whole-arc

      pub its_arc : arc_on t.arcs a.kind a.place ≡ some a
      its_arc = once_found same_arc t.arcs (λ b. both_hold _ _ (eq-eqb b.kind b.kind refl) (eq-eqb b.place b.place refl)) (both_second tests (once same_arc t.arcs) whole_transition) j

  module _ {t : Tokens} (i : In t n.tokens) where
    whole_tokens : tokens_formed n t ≡ true
    whole_tokens = all_in (every_in (tokens_formed n) n.tokens f.tokens) i

    -- tokens lie at a rank of a place, and are those found there
    pub tokens_place : t.place < length n.places
    tokens_place = ltb-true t.place (length n.places) (both_first (ltb t.place (length n.places)) (ltb t.rank (colours_of n (place_at n t.place))) whole_tokens)

    pub tokens_rank : t.rank < colours_of n (place_at n t.place)
    tokens_rank = ltb-true t.rank (colours_of n (place_at n t.place)) (both_second (ltb t.place (length n.places)) (ltb t.rank (colours_of n (place_at n t.place))) whole_tokens)

    pub tokens_found : tokens_on n.tokens t.place t.rank ≡ some t
    tokens_found = once_found same_tokens n.tokens (λ b. both_hold _ _ (eq-eqb b.place b.place refl) (eq-eqb b.rank b.rank refl)) f.tokens_once i

-- the counts of a file of bytes
pub count_word : {n : Net} → Words n → {t : Tokens} → In t n.tokens → t.count ≤ 65535
count_word {n} w {t} i = leb-true t.count 65535 (all_in (every_in (λ u. leb u.count 65535) n.tokens w.counts) i)
