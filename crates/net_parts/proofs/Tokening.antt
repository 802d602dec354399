-- How tokens are read, and where the loop over them stands. Assumes nothing.
use Rattle.std.specs.Prelude.{◌+◌, ◌∷◌, ◌++◌, if◌then◌else◌, Result, Ok, Err}
use Rattle.std.specs.Prelude as std
use mathlib.Core.Path.{◌≡◌, refl, sym, ap, ◌∙◌}
use mathlib.Core.Bool.{Bool, true, false, ◌&&◌}
use Prim.Native.Nat.{◌≤◌, ◌<◌, ◌-◌}
use native.Mathlib.Omega.{arith}
use native.Mathlib.Numerals.{add-one}
use borrow.Author.Tests.{lt-ltb, le-ltb, eq-eqb, ne_eqb, ltb-true, ltb-false, eqb-true, eqb-false}
use lib.ListN.{set, length-set, replicate}
use lib.Seq.{take-suc, take-add, take_all, get_or-set_same, get_or-set_other}
use Rattle.reading.specs.Basics.{ℕ, zero, suc, List, [], Option, some, none, absent, map, sum, length, get_or, take, drop, with, find, eqb, ltb, byte_at, word_at}
use Rattle.reading.specs.Reading.{fine, fault, whole}
use Rattle.reading.specs.Refusals.{number_of}
use Rattle.reading.specs.declared.refusal.Refusal.{Refusal}
use Rattle.reading.proofs.Commands.{end, other, passes, done, fails, later, both_hold, first_fails, second_fails, standing_none, stands_cut, stands_fails, stands_goes}
use Rattle.reading.proofs.Parts.{Reading, begins, goes_on, ends, stops}
use Rattle.net.specs.Net.{Place, single, Tokens, Net, colours_of, place_at, tokens_on}
use Rattle.net.specs.Reader.{width_of}
use Rattle.net_parts.specs.Parts.{tokens_part}
use Rattle.net_parts.specs.internal.Tables.{start_of, Started, StartsRise, flat_at, count_of, flag, flat_found, Holds, token_step, TokenRoom, TokensRead}
use Rattle.net_parts.specs.declared.token.TokenRead.{TokenRead}
use Rattle.net.proofs.Shut.{commands}
use Rattle.net_parts.proofs.Totals.{sum-with}

-- three ways that two numbers stand to each other
by_order : {A : Type 0} (p q : ℕ) → (p < q → A) → (p ≡ q → A) → (q < p → A) → A
by_order {A} p q f g h = go (ltb p q) (ltb q p) refl refl
  where
    go : (a b : Bool) → ltb p q ≡ a → ltb q p ≡ b → A
    go true b e z = f (ltb-true p q e)
    go false true e z = h (ltb-true q p z)
    go false false e z = let k = ltb-false p q e in let m = ltb-false q p z in g (omega arith)

-- ---- where flat places begin
sum-joins : {A : Type 0} (f : A → ℕ) (a b : List A) → sum (map f (a ++ b)) ≡ sum (map f a) + sum (map f b)
sum-joins f [] b = omega arith
sum-joins f (x ∷ a) b = let e = sum-joins f a b in omega arith

module _ (n : Net) (places : List Place) where
  start_next : (p : ℕ) → p < length places → start_of n places (p + 1) ≡ start_of n places p + colours_of n (get_or places p (single 0))
  start_next p lt = rw (add-one, take-suc places p (single 0) lt) (sum-with (colours_of n) (take p places) (get_or places p (single 0)))

  start_grows : (p d : ℕ) → start_of n places p ≤ start_of n places (p + d)
  start_grows p d =
      let e : start_of n places (p + d) ≡ start_of n places p + sum (map (colours_of n) (take d (drop p places))) =
      ap (λ l. sum (map (colours_of n) l)) (take-add p d places) ∙ sum-joins (colours_of n) (take p places) (take d (drop p places)) in
      omega arith

  pub start_rises : (p q : ℕ) → p ≤ q → start_of n places p ≤ start_of n places q
  start_rises p q le = let e : p + (q - p) ≡ q = omega arith in rw e at (start_grows p (q - p))

module _ {n : Net} {places : List Place} {starts : List ℕ} {count total : ℕ} (here : Started n places starts count total) where
  -- the colours of a place lie between its start and the next
  pub starts_next : (p : ℕ) → p < count → get_or starts (p + 1) 0 ≡ get_or starts p 0 + colours_of n (get_or places p (single 0))
  starts_next p lt = here.begin (p + 1) (omega arith) ∙ start_next n places p (omega (arith, here.are)) ∙ ap (λ k. k + colours_of n (get_or places p (single 0))) (sym (here.begin p (omega arith)))

  pub starts_rise : (p q : ℕ) → p ≤ q → q ≤ count → get_or starts p 0 ≤ get_or starts q 0
  starts_rise p q le few = rw (here.begin p (omega arith), here.begin q few) (start_rises n places p q le)

  pub starts_last : get_or starts count 0 ≡ total
  starts_last = here.begin count (omega arith) ∙ ap (λ l. sum (map (colours_of n) l)) (take_all count places (omega (arith, here.are))) ∙ here.all

  pub rising : count < length starts → StartsRise starts count total
  rising lt = record {
    sized = lt;
    small = here.small;
    rises = λ p q. starts_rise p (p + 1) (omega arith) (omega arith);
    bound = λ p q. let h = starts_rise (p + 1) count (omega arith) (omega arith) in omega (arith, starts_last);
  }

  -- two flat places are the same only by place and rank
  before : (p q r t : ℕ) → p < q → q < count → r < colours_of n (get_or places p (single 0)) → get_or starts p 0 + r ≡ get_or starts q 0 + t → ⊥
  before p q r t lt ql rl e =
      let a = starts_next p (omega arith) in let b = starts_rise (p + 1) q (omega arith) (omega arith) in omega arith

  pub apart : (p q r t : ℕ) → p < count → q < count → r < colours_of n (get_or places p (single 0)) → t < colours_of n (get_or places q (single 0))
      → get_or starts p 0 + r ≡ get_or starts q 0 + t → p ≡ q
  apart p q r t pl ql rl tl e = by_order p q (λ lt. absurd (before p q r t lt ql rl e)) (λ z. z) (λ lt. absurd (before q p t r lt pl tl (sym e)))

-- ---- tokens with one more
pub find_new : {A : Type 0} (test : A → Bool) (l : List A) (a : A) → find test l ≡ none → test a ≡ true → find test (with l a) ≡ some a
unfolding find
find_new test [] a e t = rw t
find_new {A} test (x ∷ l) a e t = by_bool (test x) e (λ q. find_new test l a q t)
  where
    by_bool : (b : Bool) → (if b then some x else find test l) ≡ none → (find test l ≡ none → find test (with l a) ≡ some a) → (if b then some x else find test (with l a)) ≡ some a
    by_bool true q ih = absurd (let w : ◌≡◌ {A = ℕ} 0 1 = cc in omega arith)
    by_bool false q ih = ih q

pub find-same : {A : Type 0} (test : A → Bool) (l : List A) (a : A) → test a ≡ false → find test (with l a) ≡ find test l
unfolding find
find-same test [] a t = rw t
find-same test (x ∷ l) a t = rw (find-same test l a t)

-- ---- one step
unnamed : (o : Option Tokens) → flag o ≡ 0 → o ≡ none
unnamed none e = refl
unnamed (some t) e = absurd (omega arith)

is_named : (o : Option Tokens) → (flag o ≡ 0 → ⊥) → absent o ≡ false
is_named none ne = absurd (ne refl)
is_named (some t) ne = refl

-- the flat place found of a rank of a place
module _ (starts : List ℕ) (count p rank : ℕ) where
  pub not_found : flat_found starts count p rank ≡ std.None → (p < count → get_or starts (p + 1) 0 ≤ flat_at starts p rank)
  not_found e lt = go (ltb p count) (ltb (flat_at starts p rank) (get_or starts (p + 1) 0)) refl refl e
    where
      go : (a b : Bool) → ltb p count ≡ a → ltb (flat_at starts p rank) (get_or starts (p + 1) 0) ≡ b
          → (if a && b then std.Some (flat_at starts p rank) else std.None) ≡ std.None → get_or starts (p + 1) 0 ≤ flat_at starts p rank
      go true true f g q = let z : ◌≡◌ {A = ℕ} 0 1 = cc in absurd (omega arith)
      go true false f g q = ltb-false (flat_at starts p rank) (get_or starts (p + 1) 0) g
      go false b f g q = let h = ltb-false p count f in absurd (omega arith)

  pub found : {flat : ℕ} → flat_found starts count p rank ≡ std.Some flat → (p < count) × (flat ≡ flat_at starts p rank) × (flat < get_or starts (p + 1) 0)
  found {flat} e = go (ltb p count) (ltb (flat_at starts p rank) (get_or starts (p + 1) 0)) refl refl e
    where
      go : (a b : Bool) → ltb p count ≡ a → ltb (flat_at starts p rank) (get_or starts (p + 1) 0) ≡ b
          → (if a && b then std.Some (flat_at starts p rank) else std.None) ≡ std.Some flat → (p < count) × (flat ≡ flat_at starts p rank) × (flat < get_or starts (p + 1) 0)
      go true true f g q = let w : flat ≡ flat_at starts p rank = cc in
          (ltb-true p count f, w, rw w (ltb-true (flat_at starts p rank) (get_or starts (p + 1) 0) g))
      go true false f g q = let z : ◌≡◌ {A = ℕ} 0 1 = cc in absurd (omega arith)
      go false b f g q = let z : ◌≡◌ {A = ℕ} 0 1 = cc in absurd (omega arith)

-- the place after the command
pub after_tokens : (s : List ℕ) (at : ℕ) → byte_at s at ≡ 0x19 → {next : ℕ} → ((w : ℕ) → width_of (byte_at s at) ≡ some w → next ≡ at + (1 + w)) → next ≡ at + 6
unfolding commands
after_tokens s at e is-next = is-next 5 (ap width_of e)

module _ (s : List ℕ) (n : Net) (tokens : List Tokens) (at : ℕ) where
  pub tokens_other : (byte_at s at ≡ 0x19 → ⊥) → tokens_part s n tokens at ≡ none
  unfolding commands tokens_part
  tokens_other ne = standing_none _ _ _ (other (ne_eqb (byte_at s at) 0x19 ne) end)

  module _ (stands : byte_at s at ≡ 0x19) where
    pub tokens_cut : length s < at + 6 → tokens_part s n tokens at ≡ some (fault 2 (length s))
    unfolding commands tokens_part
    tokens_cut lt = stands_cut _ _ 0x19 _ stands refl lt

    module _ (whole-there : at + 6 ≤ length s) (p rank : ℕ) (place_is : p ≡ byte_at s (at + 1)) (rank_is : rank ≡ word_at s (at + 2)) where
      no_place : length n.places ≤ p → tokens_part s n tokens at ≡ some (fault 5 at)
      unfolding commands tokens_part
      no_place le =
          let e : ltb (byte_at s (at + 1)) (length n.places) ≡ false = rw (← place_is) (le-ltb p (length n.places) le) in
          stands_fails _ _ 0x19 _ stands refl whole-there (fails (first_fails _ _ e))

      no_rank : colours_of n (place_at n p) ≤ rank → tokens_part s n tokens at ≡ some (fault 5 at)
      unfolding commands tokens_part
      no_rank le =
          let e : ltb (word_at s (at + 2)) (colours_of n (place_at n (byte_at s (at + 1)))) ≡ false = rw (← place_is, ← rank_is) (le-ltb rank (colours_of n (place_at n p)) le) in
          stands_fails _ _ 0x19 _ stands refl whole-there (fails (second_fails (ltb (byte_at s (at + 1)) (length n.places)) _ e))

      module _ {starts : List ℕ} {count total : ℕ} (begun : Started n n.places starts count total) where
        pub tokens_missing : flat_found starts count p rank ≡ std.None → tokens_part s n tokens at ≡ some (fault 5 at)
        tokens_missing e = by_order p count (λ lt. no_rank (omega (arith, starts_next begun p lt, not_found starts count p rank e lt)))
            (λ q. no_place (omega (arith, begun.are))) (λ gt. no_place (omega (arith, begun.are)))

        module _ {flat : ℕ} (here : flat_found starts count p rank ≡ std.Some flat) where
          h : (p < count) × (flat ≡ flat_at starts p rank) × (flat < get_or starts (p + 1) 0)
          h = found starts count p rank here

          known : p < length n.places
          known = omega (arith, h.0, begun.are)

          pub fitting : rank < colours_of n (place_at n p)
          fitting = omega (arith, h.1, h.2, starts_next begun p h.0)

          there : ltb (byte_at s (at + 1)) (length n.places) && ltb (word_at s (at + 2)) (colours_of n (place_at n (byte_at s (at + 1)))) ≡ true
          there = rw (← place_is, ← rank_is) (both_hold _ _ (lt-ltb p (length n.places) known) (lt-ltb rank (colours_of n (place_at n p)) fitting))

          -- the mark at the flat place
          module _ (table : List ℕ) (reached : flat < length table) (named : Holds n tokens flag starts table) where
            mark : get_or table flat 0 ≡ flag (tokens_on tokens p rank)
            mark = rw h.1 (named p rank known fitting (omega (arith, h.1)))

            pub tokens_again : (get_or table flat 0 ≡ 0 → ⊥) → tokens_part s n tokens at ≡ some (fault 9 at)
            unfolding commands tokens_part
            tokens_again ne = stands_fails _ _ 0x19 _ stands refl whole-there
                (later there (fails (rw (← place_is, ← rank_is) (is_named (tokens_on tokens p rank) (λ q. ne (mark ∙ q))))))

            pub tokens_go : {amount next : ℕ} → get_or table flat 0 ≡ 0 → amount ≡ word_at s (at + 4) → next ≡ at + 6
                → tokens_part s n tokens at ≡ some (fine (with tokens (record { place = p; rank = rank; count = amount })) next)
            unfolding commands tokens_part
            tokens_go e f is-next = rw (place_is, rank_is, f, is-next) (stands_goes _ _ 0x19 _ stands refl whole-there
                (passes there (passes (rw (← place_is, ← rank_is, unnamed (tokens_on tokens p rank) (sym mark ∙ e))) done)))

-- ---- the loop
-- a table over the flat places, with one more of the tokens
module _ {n : Net} {starts : List ℕ} {count total : ℕ} (begun : Started n n.places starts count total) where
  pub holds_more : (value : Option Tokens → ℕ) (tokens : List Tokens) (table : List ℕ) (x : Tokens) {new : ℕ} → new ≡ value (some x)
      → x.place < count → x.rank < colours_of n (place_at n x.place)
      → tokens_on tokens x.place x.rank ≡ none → Holds n tokens value starts table → Holds n (with tokens x) value starts (set table (flat_at starts x.place x.rank) new)
  holds_more value tokens table x {new} e pl rl fresh here p rank known fit reached = go (eqb x.place p) (eqb x.rank rank) refl refl
    where
      reaches : flat_at starts p rank < length table
      reaches = omega (arith, length-set table (flat_at starts x.place x.rank) new)

      apart_flat : (flat_at starts p rank ≡ flat_at starts x.place x.rank → ⊥) → eqb x.place p && eqb x.rank rank ≡ false
          → get_or (set table (flat_at starts x.place x.rank) new) (flat_at starts p rank) 0 ≡ value (tokens_on (with tokens x) p rank)
      apart_flat ne q = get_or-set_other table (flat_at starts x.place x.rank) (flat_at starts p rank) new 0 ne ∙ here p rank known fit reaches
          ∙ ap value (sym (find-same (λ t. eqb t.place p && eqb t.rank rank) tokens x q))

      go : (a b : Bool) → eqb x.place p ≡ a → eqb x.rank rank ≡ b
          → get_or (set table (flat_at starts x.place x.rank) new) (flat_at starts p rank) 0 ≡ value (tokens_on (with tokens x) p rank)
      go true true q z =
          let u = eqb-true x.place p q in let w = eqb-true x.rank rank z in
          rw (← u, ← w) (get_or-set_same table (flat_at starts x.place x.rank) new 0 (rw (u, w) reaches) ∙ e
          ∙ ap value (sym (find_new (λ t. eqb t.place x.place && eqb t.rank x.rank) tokens x fresh (both_hold (eqb x.place x.place) (eqb x.rank x.rank) (eq-eqb x.place x.place refl) (eq-eqb x.rank x.rank refl)))))
      go false b q z = apart_flat
          (λ same. eqb-false x.place p q (apart begun x.place p x.rank rank pl (omega (arith, begun.are)) rl fit (sym same))) (first_fails (eqb x.place p) (eqb x.rank rank) q)
      go true false q z = apart_flat
          (λ same. let u = eqb-true x.place p q in eqb-false x.rank rank z (let w : get_or starts x.place 0 ≡ get_or starts p 0 = ap (λ k. get_or starts k 0) u in omega arith)) (second_fails (eqb x.place p) (eqb x.rank rank) z)

  pub holds_none : (value : Option Tokens → ℕ) (table : List ℕ) → value none ≡ 0 → ((i : ℕ) → get_or table i 0 ≡ 0) → Holds n [] value starts table
  unfolding find
  holds_none value table e zeros p rank _ _ _ = zeros (flat_at starts p rank) ∙ sym e

-- the tokens read so far, over one net
pub record Tokening (s : List ℕ) (n : Net) (start : ℕ) (starts initial named : List ℕ) (at : ℕ) : Type 0 where
  pub tokens : List Tokens
  pub reading : Reading s (tokens_part s n) tokens at (whole s (tokens_part s n) [] start)
  pub counts : Holds n tokens count_of starts initial
  pub names : Holds n tokens flag starts named

-- there are none
pub no_tokens : {s starts : List ℕ} {count total start : ℕ} (initial : List ℕ) → (byte_at s start ≡ 0x19 → ⊥) → ((i : ℕ) → get_or initial i 0 ≡ 0)
    → (n : Net) → Started n n.places starts count total → TokensRead s n start starts initial start
no_tokens {s} {start = start} initial ne zeros n begun = record {
  tokens = [];
  read = ends s (tokens_part s n) (begins s (tokens_part s n) [] start) (tokens_other s n [] start ne);
  holds = holds_none begun count_of initial refl zeros;
}

-- a list of one value, read past its end too
pub all_same : {A : Type 0} (n i : ℕ) (a : A) → get_or (replicate n a) i a ≡ a
all_same zero i a = refl
all_same (suc n) zero a = refl
all_same (suc n) (suc i) a = all_same n i a

-- over every net whose flat places begin so
pub record TokenLoop (s starts : List ℕ) (count total start len : ℕ) (initial named : List ℕ) (at : ℕ) : Type 0 where
  pub counted : length initial ≡ len
  pub marked : length named ≡ 4096
  pub each : (n : Net) → Started n n.places starts count total → Tokening s n start starts initial named at

pub tokening_begins : {s starts : List ℕ} {count total start len : ℕ} (initial named : List ℕ) → length initial ≡ len → length named ≡ 4096
    → ((i : ℕ) → (get_or initial i 0 ≡ 0) × (get_or named i 0 ≡ 0)) → TokenLoop s starts count total start len initial named start
tokening_begins {s} {starts} {count} {total} {start} initial named a b f = record {
  counted = a;
  marked = b;
  each = λ n begun. record {
    tokens = [];
    reading = begins s (tokens_part s n) [] start;
    counts = holds_none begun count_of initial refl (λ i. (f i).0);
    names = holds_none begun flag named refl (λ i. (f i).1);
  };
}

module _ {s starts : List ℕ} {count total start len : ℕ} {initial named : List ℕ} {at : ℕ} (here : TokenLoop s starts count total start len initial named at) (r : Result (std.Option TokenRead) Refusal)
    (is : (n : Net) (tokens : List Tokens) → Started n n.places starts count total → Holds n tokens flag starts named → tokens_part s n tokens at ≡ token_step tokens r)
    (room : TokenRoom starts named (length s) count at r) where
  pub tokening_ends : r ≡ Ok std.None → (n : Net) → Started n n.places starts count total → TokensRead s n start starts initial at
  tokening_ends e n begun =
      let now = here.each n begun in
      record { tokens = now.tokens; read = ends s (tokens_part s n) now.reading (rw e at (is n now.tokens begun now.names)); holds = now.counts }

  pub tokening_stops : {f : Refusal} → r ≡ Err f → (n : Net) → Started n n.places starts count total → fault (number_of f.reason) f.place ≡ whole s (tokens_part s n) [] start
  tokening_stops e n begun =
      let now = here.each n begun in stops s (tokens_part s n) now.reading (rw e at room) (rw e at (is n now.tokens begun now.names))

  pub tokening_goes : {t : TokenRead} → r ≡ Ok (std.Some t)
      → TokenLoop s starts count total start len (set initial t.flat t.count) (set named t.flat 1) t.next
  tokening_goes {t} e = record {
    counted = length-set initial t.flat t.count ∙ here.counted;
    marked = length-set named t.flat 1 ∙ here.marked;
    each = λ n begun. step n begun (here.each n begun);
  }
    where
      h : (t.place < count) × (t.flat ≡ get_or starts t.place 0 + t.rank) × (t.flat < get_or starts (t.place + 1) 0) × (at < t.next) × (t.next ≤ length s) × (get_or named t.flat 0 ≡ 0) × (t.flat < 4096)
      h = rw e at room

      step : (n : Net) → Started n n.places starts count total → Tokening s n start starts initial named at
          → Tokening s n start starts (set initial t.flat t.count) (set named t.flat 1) t.next
      step n begun now =
          let fit : t.rank < colours_of n (place_at n t.place) = omega (arith, h.1, h.2, starts_next begun t.place h.0) in
          let fresh : tokens_on now.tokens t.place t.rank ≡ none = unnamed (tokens_on now.tokens t.place t.rank)
          (sym (now.names t.place t.rank (omega (arith, h.0, begun.are)) fit (omega (arith, h.1, h.6, here.marked))) ∙ (rw h.1 at h.5)) in
          let x : Tokens = record { place = t.place; rank = t.rank; count = t.count } in
          record {
            tokens = with now.tokens x;
            reading = goes_on s (tokens_part s n) (with now.tokens x) t.next now.reading h.3 h.4 (rw e at (is n now.tokens begun now.names));
            counts = rw h.1 (holds_more begun count_of now.tokens initial x refl h.0 fit fresh now.counts);
            names = rw h.1 (holds_more begun flag now.tokens named x refl h.0 fit fresh now.names);
          }
