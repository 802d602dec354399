-- Where the loop over the places stands. Assumes nothing.
use Rattle.std.specs.Prelude.{◌+◌, ◌∷◌, Result, Ok, Err}
use Rattle.std.specs.Prelude as std
use mathlib.Core.Path.{◌≡◌, refl, sym, ap, ◌∙◌}
use mathlib.Core.Logic.{⊎_elim}
use Prim.Native.Nat.{◌≤◌, ◌<◌}
use native.Mathlib.Omega.{arith}
use native.Mathlib.Nat.{eq-or-lt_of_le}
use native.Mathlib.Numerals.{add-one}
use lib.ListN.{set, length-set, length-append, length-map}
use lib.Seq.{take-suc-set, take-append-le, take_all, get_or-set_same, get_or-set_other}
use Rattle.reading.specs.Basics.{ℕ, List, [], map, sum, length, get_or, take, with}
use Rattle.reading.specs.Reading.{fine, fault, whole}
use Rattle.reading.specs.Refusals.{number_of}
use Rattle.reading.specs.declared.refusal.Refusal.{Refusal}
use Rattle.reading.proofs.Parts.{Reading, begins, goes_on, ends, stops}
use Rattle.net.specs.Net.{Place, Net, colours_of, scope}
use Rattle.net.specs.internal.ReaderEnums.{place_in}
use Rattle.net.specs.declared.PlaceSets.{PlaceSets}
use Rattle.net_parts.specs.Parts.{place_part}
use Rattle.net_parts.specs.internal.Steps.{place_step}
use Rattle.net_parts.specs.internal.Tables.{places_of, start_of, PlaceRoom, Started}
use Rattle.net_parts.specs.declared.place.PlaceRead.{PlaceRead}
use Rattle.net_parts.proofs.Totals.{sum-with}

-- ---- the places of a list
pub length_places : (kinds : List PlaceSets) → length (places_of kinds) ≡ length kinds
unfolding places_of
length_places kinds = length-map kinds place_in

pub places_with : (kinds : List PlaceSets) (k : PlaceSets) → places_of (with kinds k) ≡ with (places_of kinds) (place_in k)
unfolding places_of
places_with [] k = refl
places_with (x ∷ kinds) k = ap (λ l. place_in x ∷ l) (places_with kinds k)

-- the front of a lent list, one longer
pub places_more : (kinds : List PlaceSets) (count : ℕ) (k : PlaceSets) → count < length kinds → places_of (take (count + 1) (set kinds count k)) ≡ with (places_of (take count kinds)) (place_in k)
places_more kinds count k lt = ap places_of (rw add-one (take-suc-set kinds count k lt)) ∙ places_with (take count kinds) k

-- ---- where flat places begin
pub starts_none : (n : Net) (starts : List ℕ) → 0 < length starts → Started n [] (set starts 0 0) 0 0
starts_none n starts lt = record {
  few = omega arith;
  small = omega arith;
  are = refl;
  all = refl;
  begin = λ p le. let e : p ≡ 0 = omega arith in rw e (get_or-set_same starts 0 0 0 lt);
}

pub starts_more : (n : Net) {places : List Place} {starts : List ℕ} {count total : ℕ} (x : Place) (more : ℕ) → Started n places starts count total
    → count < 32 → more ≤ 4096 → count + 1 < length starts → more ≡ total + colours_of n x → Started n (with places x) (set starts (count + 1) more) (count + 1) more
starts_more n {places} {starts} {count} {total} x more here lt le room e = record {
  few = omega arith;
  small = le;
  are = longer;
  all = total_is;
  begin = λ p q. ⊎_elim (λ z. rw z (last p z)) (λ l. earlier p (omega arith)) (eq-or-lt_of_le q);
}
  where
    longer : length (with places x) ≡ count + 1
    longer = length-append places (x ∷ []) ∙ ap (λ k. k + 1) here.are

    total_is : sum (map (colours_of n) (with places x)) ≡ more
    total_is = sum-with (colours_of n) places x ∙ ap (λ k. k + colours_of n x) here.all ∙ sym e

    last : (p : ℕ) → p ≡ count + 1 → get_or (set starts (count + 1) more) (count + 1) 0 ≡ start_of n (with places x) (count + 1)
    last p z = get_or-set_same starts (count + 1) more 0 room ∙ sym (ap (λ l. sum (map (colours_of n) l)) (take_all (count + 1) (with places x) (omega (arith, longer))) ∙ total_is)

    earlier : (p : ℕ) → p ≤ count → get_or (set starts (count + 1) more) p 0 ≡ start_of n (with places x) p
    earlier p q = get_or-set_other starts (count + 1) p more 0 (λ z. omega arith) ∙ here.begin p q
        ∙ sym (ap (λ l. sum (map (colours_of n) l)) (take-append-le p places (x ∷ []) (omega (arith, here.are))))

-- ---- the loop
abbrev pub front : List PlaceSets → ℕ → List Place
front kinds count = places_of (take count kinds)

pub record Placing (s sets : List ℕ) (start : ℕ) (kinds : List PlaceSets) (starts : List ℕ) (count total at : ℕ) : Type 0 where
  pub sized : length kinds ≡ 32
  pub start_sized : length starts ≡ 33
  pub started : Started (scope sets [] []) (front kinds count) starts count total
  pub reading : (variables : List ℕ) → Reading s (place_part s (scope sets variables [])) (front kinds count) at
      (whole s (place_part s (scope sets variables [])) [] start)

pub placing_begins : (s sets : List ℕ) (start : ℕ) (kinds : List PlaceSets) (starts : List ℕ) → length kinds ≡ 32 → length starts ≡ 33
    → Placing s sets start kinds (set starts 0 0) 0 0 start
unfolding places_of
placing_begins s sets start kinds starts a c = record {
  sized = a;
  start_sized = length-set starts 0 0 ∙ c;
  started = starts_none (scope sets [] []) starts (omega arith);
  reading = λ variables. begins s (place_part s (scope sets variables [])) [] start;
}

module _ {s sets : List ℕ} {start : ℕ} {kinds : List PlaceSets} {starts : List ℕ} {count total at : ℕ} (here : Placing s sets start kinds starts count total at) where
  -- what a step of the code says
  module _ (r : Result (std.Option PlaceRead) Refusal) (is : (variables : List ℕ) (places : List Place) → length places ≡ count
      → sum (map (colours_of (scope sets variables [])) places) ≡ total → place_part s (scope sets variables []) places at ≡ place_step places r) (room : PlaceRoom sets (length s) count total at r) where
    said : (variables : List ℕ) → place_part s (scope sets variables []) (front kinds count) at ≡ place_step (front kinds count) r
    said variables = is variables (front kinds count) here.started.are here.started.all

    -- one more place, with its sets in the tables
    pub placing_goes : {p : PlaceRead} → r ≡ Ok (std.Some p) → Placing s sets start (set kinds count p.sets) (set starts (count + 1) p.total) (count + 1) p.total p.next
    placing_goes {p} e = record {
      sized = length-set kinds count p.sets ∙ here.sized;
      start_sized = length-set starts (count + 1) p.total ∙ here.start_sized;
      started = rw grown (starts_more (scope sets [] []) (place_in p.sets) p.total here.started h.0 h.1 (omega (arith, here.start_sized, h.0)) h.2);
      reading = λ variables. rw grown (goes_on s (place_part s (scope sets variables [])) (with (front kinds count) (place_in p.sets)) p.next (here.reading variables) h.3 h.4 (rw e at (said variables)));
    }
      where
        h : (count < 32) × (p.total ≤ 4096) × (p.total ≡ total + colours_of (scope sets [] []) (place_in p.sets)) × (at < p.next) × (p.next ≤ length s)
        h = rw e at room

        grown : front (set kinds count p.sets) (count + 1) ≡ with (front kinds count) (place_in p.sets)
        grown = places_more kinds count p.sets (omega (arith, here.sized, h.0))

    pub placing_ends : r ≡ Ok std.None → (variables : List ℕ) → fine (front kinds count) at ≡ whole s (place_part s (scope sets variables [])) [] start
    placing_ends e variables = ends s (place_part s (scope sets variables [])) (here.reading variables) (rw e at (said variables))

    pub placing_stops : {f : Refusal} → r ≡ Err f → (variables : List ℕ) → fault (number_of f.reason) f.place ≡ whole s (place_part s (scope sets variables [])) [] start
    placing_stops e variables = stops s (place_part s (scope sets variables [])) (here.reading variables) (rw e at room) (rw e at (said variables))
