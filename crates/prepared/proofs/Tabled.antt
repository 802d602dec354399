-- The tables that a reading leaves are the tables of its net. Assumes nothing.
use Rattle.std.specs.Prelude.{◌+◌, ◌-◌, ◌%◌}
use Rattle.std.specs.Prelude as std
use mathlib.Core.Path.{◌≡◌, refl, sym, ap, subst, ◌∙◌}
use Prim.Native.Nat.{◌≤◌, ◌<◌}
use native.Mathlib.Omega.{arith}
use borrow.Author.Tests.{ltb-true, ltb-false}
use Rattle.reading.specs.Basics.{ℕ, Bool, true, false, List, Option, none, some, length, get_or, ltb}
use Rattle.reading.specs.Reading.{fine}
use Rattle.net.specs.Net.{Guard, Expression, Place, Net, colours_of, place_at, transition_at}
use Rattle.net.specs.Reader.{read_expression}
use Rattle.evaluation.specs.internal.Evaluated.{is_pair}
use Rattle.evaluation.proofs.Weights.{expression_past}
use Rattle.net_file.specs.Limits.{Limits}
use Rattle.net.specs.internal.ReaderEnums.{place_in}
use Rattle.net.specs.declared.PlaceSets.TheVariants.{One}
use Rattle.net_transitions.specs.internal.TransitionTables.{no_head, Slot, GuardHolds}
use Rattle.net_file.specs.internal.NetTables.{drawn, NetHolds}
use Rattle.net_file.specs.declared.file.Tables.{Tables}
use Rattle.net_file.specs.declared.file.Counts.{Counts}
use Rattle.prepared.specs.internal.Packed.{shape_of, shape_in, Packed}
use Rattle.prepared.specs.internal.Drawing.{start_of, GuardPlaced, Drawing}
use Rattle.prepared.specs.internal.Filled.{guard_number}
use Rattle.prepared.proofs.Starts.{start_next, start_low}

-- a slot is a place of the file, or 0
pub slot_within : (s : List ℕ) (n : Net) (place : Place) (o : Option Expression) {at : ℕ} → Slot (read_expression s n place 16) o at → at ≤ length s
slot_within s n place none is = omega arith
slot_within s n place (some e) {at} is = go (ltb at (length s)) refl
  where
    go : (t : Bool) → ltb at (length s) ≡ t → at ≤ length s
    go true lt = let h = ltb-true at (length s) lt in omega arith
    go false le = absurd (expression_past (λ a. a ≡ fine e is.1.next → ⊥) (λ k p z. let w : ◌≡◌ {A = ℕ} 0 1 = cc in omega arith) s n 16 at place (ltb-false at (length s) le) is.1.reads)

-- where a guard stands, as a number
guard_placed : (s : List ℕ) (n : Net) (guard : Guard) (o : std.Option ℕ) {at : ℕ} → at ≡ guard_number o → GuardHolds s n guard o → GuardPlaced s n guard at
guard_placed s n guard std.None e h = record { without = λ z. h; stands = λ lt. absurd (omega arith) }
guard_placed s n guard (std.Some p) e h = record { without = λ z. absurd (omega (arith, h.0)); stands = λ lt. rw e h.1 }

-- what the reader's tables hold of a net
module _ (s : List ℕ) (n : Net) {t : Tables} {arcs initial : List ℕ} {c : Counts} (h : NetHolds s n t arcs initial c) (limits : Limits n) where
  -- where places begin, and which places are pairs
  begins : (p : ℕ) → p ≤ length n.places → get_or t.starts p 0 ≡ start_of n p
  begins p le = h.started.begin p (omega (arith, h.started.are))

  pairs : (p : ℕ) → p < length n.places → is_pair (place_in (get_or t.kinds p (One 0))) ≡ is_pair (place_at n p)
  pairs p lt = ap is_pair (h.place_is p (One 0) (omega (arith, h.started.are)))

  -- what the table of places tells of a place is so
  pub shapes : (p : ℕ) → p < length n.places → shape_in t.kinds t.starts p ≡ shape_of (start_of n p) (colours_of n (place_at n p)) (is_pair (place_at n p))
  shapes p lt = same_shape first count' (pairs p lt)
    where
      first : get_or t.starts p 0 % 8192 ≡ start_of n p
      first = omega (arith, begins p (omega arith), start_low n p, limits.flat_places_lem)

      count' : (get_or t.starts (p + 1) 0 - get_or t.starts p 0) % 8192 ≡ colours_of n (place_at n p)
      count' = omega (arith, begins p (omega arith), begins (p + 1) (omega arith), start_next n p lt, start_low n (p + 1), limits.flat_places_lem)

      same_shape : {a a' b b' : ℕ} {x x' : Bool} → a ≡ a' → b ≡ b' → x ≡ x' → shape_of a b x ≡ shape_of a' b' x'
      same_shape {a} {a'} {b} {b'} {x} {x'} u v w = ap (λ k. shape_of k b x) u ∙ ap (λ k. shape_of a' k x) v ∙ ap (shape_of a' b') w

  -- with the places of guards, and the arcs packed
  pub drawing : (guards packed : List ℕ) → ((u : ℕ) → u < length n.transitions → get_or guards u 0 ≡ guard_number (get_or t.heads u no_head).guard)
      → Packed 134217728 (shape_in t.kinds t.starts) arcs packed c.places c.transitions → Drawing s n n.sets n.variables guards packed
  drawing guards packed same packs = record {
    sets = refl;
    variables = refl;
    limits = limits;
    guard = λ u lt. guard_placed s (drawn n) (transition_at n u).guard (get_or t.heads u no_head).guard (same u lt) (h.holds u lt).guarded;
    slots = arcs;
    arc = λ u k p x y z. (h.holds u x).arced k p y z;
    shape = shape_in t.kinds t.starts;
    shaped = shapes;
    packed = subst (λ k. Packed 134217728 (shape_in t.kinds t.starts) arcs packed k (length n.transitions)) (sym h.started.are)
        (subst (λ k. Packed 134217728 (shape_in t.kinds t.starts) arcs packed c.places k) (sym h.transitions_are) packs);
  }
