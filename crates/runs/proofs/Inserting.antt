-- One term added to the run of terms at a lent room's front. Assumes nothing.
use Rattle.std.specs.Prelude.{◌+◌, ◌-◌, ◌∷◌, ◌++◌, set}
use Rattle.std.specs.List.{copy_within}
use mathlib.Core.Path.{◌≡◌, refl, sym, ap, ap₂, subst, ◌∙◌}
use Prim.Native.Nat.{◌≤◌, ◌<◌}
use native.Mathlib.Omega.{arith}
use Rattle.std.proofs.Math.ListN.{length-set, length-drop}
use Rattle.std.proofs.Math.Seq.{take-set-lt}
use Rattle.std.proofs.lemmas.List.{append_assoc, take-append-drop, take-take, take_more, drop_more, drop-take, set_at, set_split, length-take-le, get_or-drop, get_or-take}
use Rattle.std.proofs.lemmas.List.Edits.{take-paste, length-paste}
use Rattle.reading.specs.Basics.{ℕ, suc, List, [], length, get_or, take, drop}
use Rattle.firing.specs.declared.Arc.{Arc}
use Rattle.arc_expressions.specs.declared.operator.Operator.TheVariants.{Plus}
use Rattle.runs.specs.internal.Terms.{limit, term, Terms, none, more, joined, join_by, Laid}
use Rattle.runs.proofs.Joining.{terms_under, terms-before, terms_front, terms_behind, joined_pass, Under, add_under, add_same}

-- ---- one term added to a run
module _ (run : List Arc) (z : Arc) (below : ℕ) (rising : Terms below 0 run) (fits : z.weight ≤ 65535) where
  abbrev added : List Arc
  added = joined (join_by Plus) 0 0 run (z ∷ [])

  -- a front of the run, and what follows it
  front_rises : (k : ℕ) → Terms below 0 (take k run)
  front_rises k = terms_front (take k run) (drop k run) (rw take-append-drop rising)

  behind_rises : (k : ℕ) → Terms below 0 (drop k run)
  behind_rises k = terms_behind (take k run) (drop k run) (rw take-append-drop rising)

  -- the terms before k lie below it, and stay
  passed : (k m : ℕ) → Terms m 0 (take k run) → m ≤ z.place → added ≡ take k run ++ joined (join_by Plus) 0 0 (drop k run) (z ∷ [])
  passed k m t le =
      let u : Terms (z.place + 1) m (z ∷ []) = more {a = z} le (omega arith) fits none in
      ap (λ l. joined (join_by Plus) 0 0 l (z ∷ [])) (sym (take-append-drop k run)) ∙ joined_pass (take k run) (drop k run) (z ∷ []) t u

  -- to the term of its rank
  pub adds : (k w : ℕ) → k < length run → (get_or run k (term 0 0)).place ≡ z.place → w ≡ limit ((get_or run k (term 0 0)).weight + z.weight)
      → added ≡ set run k (term (get_or run k (term 0 0)).place w)
  adds k w lt e ew =
      let x : Arc = get_or run k (term 0 0) in
      let t : Terms below 0 (take k run ++ (x ∷ [])) = subst (Terms below 0) (take_more run k (term 0 0) lt) (front_rises (k + 1)) in
      let u : Terms below 0 (x ∷ drop (k + 1) run) = subst (Terms below 0) (drop_more run k (term 0 0) lt) (behind_rises k) in
      passed k x.place (terms-before (take k run) x t) (omega arith)
      ∙ ap (λ l. take k run ++ joined (join_by Plus) 0 0 l (z ∷ [])) (drop_more run k (term 0 0) lt)
      ∙ ap (λ l. take k run ++ l) (add_same x z (drop (k + 1) run) (terms_behind (x ∷ []) (drop (k + 1) run) u) e ∙ ap (λ c. term x.place c ∷ drop (k + 1) run) (sym ew))
      ∙ (let q : k + 1 ≡ suc k = omega arith in ap (λ n. take k run ++ (term x.place w ∷ drop n run)) q) ∙ sym (set_split run k (term x.place w) lt)

  -- between those below its rank and those above
  pub puts : (k : ℕ) → k ≤ length run → (0 < k → (get_or run (k - 1) (term 0 0)).place < z.place) → (k < length run → z.place < (get_or run k (term 0 0)).place)
      → added ≡ take k run ++ (z ∷ drop k run)
  puts k le before above = passed k z.place low (omega arith) ∙ ap (λ l. take k run ++ l) (add_under z (drop k run) fits (behind_rises k) (under (drop k run) refl))
    where
      low : Terms z.place 0 (take k run)
      low =
          let n : length (take k run) ≡ k = length-take-le k run le in
          let e : length (take k run) - 1 ≡ k - 1 = omega arith in
          terms_under (take k run) z.place (front_rises k) (λ p. rw (e, get_or-take k run (k - 1) (term 0 0) (omega arith)) (before (omega arith)))

      under : (l : List Arc) → drop k run ≡ l → Under z.place l
      under [] q = tt
      under (b ∷ l) q =
          let n = ap length q in
          let at : get_or run k (term 0 0) ≡ b = ap (λ i. get_or run i (term 0 0)) (omega arith) ∙ sym (get_or-drop k run 0 (term 0 0)) ∙ ap (λ m. get_or m 0 (term 0 0)) q in
          rw (← at) (above (omega (arith, length-drop k run, n)))

-- ---- the same in a room whose front the run is
module _ (room : List Arc) (many below : ℕ) (z : Arc) (lt : many < length room) (rising : Terms below 0 (take many room)) (fits : z.weight ≤ 65535) where
  abbrev run : List Arc
  run = take many room

  size_run : length run ≡ many
  size_run = length-take-le many room (omega arith)

  -- what a room of that length holds up to an end then was laid into it
  lies : (room' : List Arc) (r : ℕ) → length room' ≡ length room → r ≤ length room → take r room' ≡ added run z below rising fits → Laid (joined (join_by Plus) 0 0 run (z ∷ [])) room room' r
  lies room' r size far is = record { are = is; many = omega (arith, length-take-le r room' (omega arith), ap length is); size = size }

  pub insert_adds : (k w : ℕ) → k < many → (get_or room k (term 0 0)).place ≡ z.place → w ≡ limit ((get_or room k (term 0 0)).weight + z.weight)
      → Laid (joined (join_by Plus) 0 0 run (z ∷ [])) room (set room k (term (get_or room k (term 0 0)).place w)) many
  insert_adds k w h e ew =
      let at : get_or run k (term 0 0) ≡ get_or room k (term 0 0) = get_or-take many room k (term 0 0) h in
      lies (set room k (term (get_or room k (term 0 0)).place w)) many (length-set room k (term (get_or room k (term 0 0)).place w)) (omega arith)
      (take-set-lt many room k (term (get_or room k (term 0 0)).place w) h
      ∙ sym (adds run z below rising fits k w (omega (arith, size_run)) (rw at e) (rw at ew) ∙ ap (λ (x : Arc). set run k (term x.place w)) at))

  pub insert_puts : (k : ℕ) → k ≤ many → (0 < k → (get_or room (k - 1) (term 0 0)).place < z.place) → (k < many → z.place < (get_or room k (term 0 0)).place)
      → Laid (joined (join_by Plus) 0 0 run (z ∷ [])) room (set (copy_within room k many (k + 1)) k z) (many + 1)
  insert_puts k h before above =
      let copy : List Arc = copy_within room k many (k + 1) in
      let long = length-drop k room in
      let q : many + 1 ≡ k + 1 + (many - k) = omega arith in
      let size : length copy ≡ length room = length-paste room (k + 1) (drop k room) (many - k) (omega arith) (omega (arith, long)) in
      let rest : drop k run ≡ take (many - k) (drop k room) = let n : many ≡ k + (many - k) = omega arith in ap (λ j. drop k (take j room)) n ∙ drop-take k (many - k) room in
      let moved : take (many + 1) copy ≡ take k room ++ (get_or room k (term 0 0) ∷ drop k run) =
      ap (λ j. take j copy) q ∙ take-paste room (k + 1) (drop k room) (many - k) (omega arith) (omega (arith, long))
      ∙ ap₂ ◌++◌ (take_more room k (term 0 0) (omega arith)) (sym rest) ∙ append_assoc (take k room) (get_or room k (term 0 0) ∷ []) (drop k run) in
      let low : 0 < k → (get_or run (k - 1) (term 0 0)).place < z.place = λ p. rw (get_or-take many room (k - 1) (term 0 0) (omega arith)) (before p) in
      let high : k < length run → z.place < (get_or run k (term 0 0)).place = λ p. let l : k < many = omega (arith, size_run) in rw (get_or-take many room k (term 0 0) l) (above l) in
      let is : added run z below rising fits ≡ take k room ++ (z ∷ drop k run) = puts run z below rising fits k (omega (arith, size_run)) low high ∙ ap (λ l. l ++ (z ∷ drop k run)) (take-take k many room h) in
      lies (set copy k z) (many + 1) (length-set copy k z ∙ size) (omega arith)
      (take-set-lt (many + 1) copy k z (omega arith) ∙ ap (λ l. set l k z) moved ∙ set_at (take k room) (get_or room k (term 0 0)) (drop k run) z k (length-take-le k room (omega arith)) ∙ sym is)
