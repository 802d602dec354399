-- What the trees, arcs and tokens of an accepted net keep to.
use Rattle.std.specs.Prelude.{◌≡◌, ◌<◌, ◌+◌, ◌*◌, ◌&&◌, ◌∷◌}
use Rattle.reading.specs.Basics.{ℕ, Bool, true, false, not, List, [], length, get_or, ltb, leb, eqb, any, every}
use Rattle.net.specs.Net.{Colour, variable, constant, successor, predecessor, Guard, always, opposite, both, either, equal, less, Expression, one, two, all, plus, minus, times, Place, Arc, Transition, Tokens, Net, size_of, sets_of, colours_of, place_at, set_of, ceiling}

-- ---- values of variables
-- each variable has a colour of its set
abbrev pub Fitting : Net → (ℕ → ℕ) → Type 0
Fitting n env = (v : ℕ) → v < length n.variables → env v < size_of n (get_or n.variables v 0)

-- ---- trees
-- a colour's variables and constants are there
unfoldable pub colour_formed : Net → Colour → Bool
colour_formed n (variable v) = ltb v (length n.variables)
colour_formed n (constant set c) = ltb set (length n.sets) && ltb c (size_of n set)
colour_formed n (successor k) = colour_formed n k
colour_formed n (predecessor k) = colour_formed n k

-- a guard compares colours of one set
abbrev pub comparable : Net → Colour → Colour → Bool
comparable n a b = colour_formed n a && colour_formed n b && eqb (set_of n a) (set_of n b)

unfoldable pub guard_formed : Net → Guard → Bool
guard_formed n always = true
guard_formed n (opposite g) = guard_formed n g
guard_formed n (both a b) = guard_formed n a && guard_formed n b
guard_formed n (either a b) = guard_formed n a && guard_formed n b
guard_formed n (equal a b) = comparable n a b
guard_formed n (less a b) = comparable n a b

-- colours, one of each set in turn
unfoldable pub of_sets : Net → List ℕ → List Colour → Bool
of_sets n [] [] = true
of_sets n [] (k ∷ colours) = false
of_sets n (set ∷ sets) [] = false
of_sets n (set ∷ sets) (k ∷ colours) = colour_formed n k && eqb (set_of n k) set && of_sets n sets colours

-- an arc expression on a place: 0x40 names colours of the place's sets, and 0x42 to 0x44 keep their ceilings
unfoldable pub expression_formed : Net → Place → Expression → Bool
expression_formed n p (one count k) = of_sets n (sets_of p) (k ∷ [])
expression_formed n p (two count a b) = of_sets n (sets_of p) (a ∷ b ∷ [])
expression_formed n p (all count) = true
expression_formed n p (plus a b) = expression_formed n p a && expression_formed n p b && leb (ceiling a + ceiling b) 65535
expression_formed n p (minus a b) = expression_formed n p a && expression_formed n p b && leb (ceiling a) 65535
expression_formed n p (times factor e) = expression_formed n p e && leb (factor * ceiling e) 65535

-- ---- arcs and tokens
-- no two elements are alike
unfoldable pub once : {A : Type 0} → (A → A → Bool) → List A → Bool
once alike [] = true
once alike (a ∷ l) = not (any (alike a) l) && once alike l

-- an arc stands on a place, with an expression for it; two of one kind on one place
abbrev pub arc_formed : Net → Arc → Bool
arc_formed n a = ltb a.place (length n.places) && expression_formed n (place_at n a.place) a.expression

abbrev pub same_arc : Arc → Arc → Bool
same_arc a b = eqb a.kind b.kind && eqb a.place b.place

-- a transition: its guard, its arcs, one of a kind per place
abbrev pub transition_formed : Net → Transition → Bool
transition_formed n t = guard_formed n t.guard && every (arc_formed n) t.arcs && once same_arc t.arcs

-- tokens lie at a rank of a place; two at one rank of one place
abbrev pub tokens_formed : Net → Tokens → Bool
tokens_formed n t = ltb t.place (length n.places) && ltb t.rank (colours_of n (place_at n t.place))

abbrev pub same_tokens : Tokens → Tokens → Bool
same_tokens a b = eqb a.place b.place && eqb a.rank b.rank

pub record Formed (n : Net) : Type 0 where
  pub transitions : every (transition_formed n) n.transitions ≡ true
  pub tokens : every (tokens_formed n) n.tokens ≡ true
  pub tokens_once : once same_tokens n.tokens ≡ true

-- of a file of bytes, besides: ceilings and token counts are u16
pub record Words (n : Net) : Type 0 where
  pub ceilings : every (λ t. every (λ a. leb (ceiling a.expression) 65535) t.arcs) n.transitions ≡ true
  pub counts : every (λ t. leb t.count 65535) n.tokens ≡ true
