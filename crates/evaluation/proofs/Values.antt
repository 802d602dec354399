-- What an evaluator gives, from what stands in the bytes: by cases on the reading. Assumes nothing.
use Rattle.std.specs.Prelude.{◌+◌, ◌-◌, ◌&&◌, ◌||◌, ◌∷◌, if◌then◌else◌}
use mathlib.Core.Path.{◌≡◌, refl, sym, ap, subst, ◌∙◌}
use Prim.Native.Nat.{◌≤◌, ◌<◌}
use native.Mathlib.Omega.{arith}
use borrow.Author.Tests.{eqb-true}
use lib.ListN.{length-drop}
use lib.Seq.{take_all, get_or-drop}
use Rattle.std.specs.List.{slice_range}
use Rattle.reading.specs.Basics.{ℕ, Bool, true, not, List, [], Option, some, none, option_map, length, get_or, drop, ltb, eqb, given, find, byte_at}
use Rattle.reading.specs.Reading.{Answer, fine, fault, ◌and_then◌, under, Check, ◌unless◌, failing, checked, Command, obey, standing, needed}
use Rattle.reading.proofs.Commands.{known, needed_at, needed_past}
use Rattle.reading.proofs.Within.{by_test}
use Rattle.net.specs.Net.{Colour, successor, predecessor, Guard, opposite, both, either, equal, less, Net, size_of, set_of}
use Rattle.net.specs.Reader.{read_colour, read_guard, comparison}
use Rattle.net.specs.Values.{colour, holds}
use Rattle.evaluation.specs.internal.Evaluated.{after, before, bound, Valued, GuardHeld}
use Rattle.evaluation.specs.internal.Comparing.{tree_of, test_of}
use Rattle.evaluation.specs.declared.step.Comparison.{Comparison}
use Rattle.evaluation.specs.declared.step.Comparison.TheVariants.{Equal, Less}
use Rattle.evaluation.specs.declared.evaluate.Value.{Value}
use Rattle.evaluation.specs.declared.evaluate.Tested.{Tested}
use Rattle.net.proofs.Shut.{commands}
use Rattle.net.proofs.Colours.{colour_step, deeper_is}
use Rattle.net.proofs.Guards.{guard_step, guard_in}

-- ---- what faults have, and the reading after a command's operands has, the reading has
module _ {A : Type 0} (P : Answer A → Type 0) (faults : (k p : ℕ) → P (fault k p)) (s : List ℕ) (at : ℕ) where
  pub obey_by : (c : Command A) → P (c.goes (at + (1 + c.width))) → P (obey s at c)
  unfolding obey
  obey_by c g = by_test P (ltb (length s) (at + (1 + c.width))) (λ e. faults 2 (length s)) (λ e. go (failing c.checks))
    where
      go : (o : Option ℕ) → P (given o (c.goes (at + (1 + c.width))) λ number. fault number at)
      go none = g
      go (some k) = faults k at

  -- at a place where the byte of a command is
  pub needed_by : (b : ℕ) (commands : List (Command A)) {c : Command A} → byte_at s at ≡ b → known commands b ≡ some c → P (c.goes (at + (1 + c.width))) → P (needed s commands at)
  needed_by b commands {c} e i g = rw (needed_at s at commands b e i) (obey_by c g)

  -- past the end
  pub past_by : (commands : List (Command A)) → known commands 0 ≡ none → length s ≤ at → P (needed s commands at)
  past_by commands e le = rw (needed_past s at commands e le) (faults 2 (length s))

  -- each of the commands, where its byte stands there
  abbrev Each : List (Command A) → Type 0
  Each [] = Unit {0}
  Each (c ∷ commands) = (byte_at s at ≡ c.byte → P (obey s at c)) × Each commands

  abbrev PIf : Option (Answer A) → Type 0
  PIf none = Unit {0}
  PIf (some answer) = P answer

  standing_each : (commands : List (Command A)) → Each commands → PIf (standing s commands at)
  unfolding standing find
  standing_each [] h = tt
  standing_each (c ∷ commands) h =
      by_test {A = Option (Command A)} (λ o. PIf (option_map (obey s at) o)) (eqb (byte_at s at) c.byte) (λ e. h.0 (eqb-true _ _ e)) (λ e. standing_each commands h.1)

  pub needed_each : (commands : List (Command A)) → Each commands → P (needed s commands at)
  unfolding needed
  needed_each commands h = go (standing s commands at) (standing_each commands h)
    where
      go : (o : Option (Answer A)) → PIf o → P (given o (if ltb at (length s) then fault 3 at else fault 2 (length s)) λ answer. answer)
      go none e = by_test P (ltb at (length s)) (λ _. faults 3 at) (λ _. faults 2 (length s))
      go (some answer) e = e

-- a value after a check
pub checked_by : {A : Type 0} (P : Answer A → Type 0) → ((k p : ℕ) → P (fault k p)) → (at : ℕ) (checks : List Check) (a : A) (next : ℕ) → P (fine a next) → P (checked at checks a next)
checked_by P faults at checks a next h = go (failing checks)
  where
    go : (o : Option ℕ) → P (given o (fine a next) λ number. fault number at)
    go none = h
    go (some k) = faults k at

-- ---- colours
module _ (n : Net) (env : List ℕ) where
  -- the successor and the predecessor of a value are those of its tree
  successor_of : (x : Answer Colour) (r : Value) → Valued n env r x → Valued n env (record { colour = after (size_of n r.set) r.colour; set = r.set; next = r.next }) (under successor x)
  unfolding set_of colour
  successor_of (fine k next) r h = rw h
  successor_of (fault k p) r h = tt

  predecessor_of : (x : Answer Colour) (r : Value) → Valued n env r x → Valued n env (record { colour = before (size_of n r.set) r.colour; set = r.set; next = r.next }) (under predecessor x)
  unfolding set_of colour
  predecessor_of (fine k next) r h = rw h
  predecessor_of (fault k p) r h = tt

-- a byte of what stands from a place on
part_byte : (s part : List ℕ) (from k : ℕ) → part ≡ slice_range s from (length s) → k < length part → get_or part k 0 ≡ get_or s (from + k) 0
part_byte s part from k is lt =
    let whole : part ≡ drop from s = is ∙ take_all (length s - from) (drop from s) (simp length-drop (omega arith)) in
    rw whole (get_or-drop from s k 0)

module _ (s : List ℕ) (n : Net) (env : List ℕ) (left at : ℕ) where
  -- 0x30 and 0x31
  pub variable_valued : byte_at s at ≡ 0x30
      → Valued n env (record { colour = get_or env (byte_at s (at + 1)) 0; set = get_or n.variables (byte_at s (at + 1)) 0; next = at + 2 }) (read_colour s n left at)
  unfolding commands set_of colour
  variable_valued e = rw (colour_step s n left at) (needed_by (Valued n env _) (λ k p. tt) s at 0x30 _ e refl refl)

  pub constant_valued : byte_at s at ≡ 0x31 → Valued n env (record { colour = byte_at s (at + 2); set = byte_at s (at + 1); next = at + 3 }) (read_colour s n left at)
  unfolding commands set_of colour
  constant_valued e = rw (colour_step s n left at) (needed_by (Valued n env _) (λ k p. tt) s at 0x31 _ e refl refl)

  -- 0x32, and 0x33 where no other byte stands there, with a level left
  module _ (le : 1 ≤ left) (r : Value) (inner : Valued n env r (read_colour s n (left - 1) (at + 1))) where
    pub successor_valued : byte_at s at ≡ 0x32 → Valued n env (record { colour = after (size_of n r.set) r.colour; set = r.set; next = r.next }) (read_colour s n left at)
    unfolding commands
    successor_valued e =
        rw (colour_step s n left at) (needed_by (Valued n env _) (λ k p. tt) s at 0x32 _ e refl (rw (deeper_is s n left (at + 1) le) (successor_of n env (read_colour s n (left - 1) (at + 1)) r inner)))

    pub predecessor_else : (byte_at s at ≡ 0x30 → ⊥) → (byte_at s at ≡ 0x31 → ⊥) → (byte_at s at ≡ 0x32 → ⊥)
        → Valued n env (record { colour = before (size_of n r.set) r.colour; set = r.set; next = r.next }) (read_colour s n left at)
    unfolding commands
    predecessor_else f g h =
        rw (colour_step s n left at) (needed_each (Valued n env _) (λ k p. tt) s at _ (
          λ e. absurd (f e),
          (
            λ e. absurd (g e),
            (
              λ e. absurd (h e),
              (λ e. obey_by (Valued n env _) (λ k p. tt) s at _ (rw (deeper_is s n left (at + 1) le) (predecessor_of n env (read_colour s n (left - 1) (at + 1)) r inner)), tt),
            ),
          ),
        ))

  -- nothing is promised past the end, and where no level is left for what is inside
  pub colour_past : (r : Value) → length s ≤ at → Valued n env r (read_colour s n left at)
  unfolding commands
  colour_past r le = rw (colour_step s n left at) (past_by (Valued n env r) (λ k p. tt) s at _ refl le)

  pub colour_shut : (r : Value) → left < 1 → (byte_at s at ≡ 0x30 → ⊥) → (byte_at s at ≡ 0x31 → ⊥) → Valued n env r (read_colour s n left at)
  unfolding commands
  colour_shut r lt f g =
      let z : left ≡ 0 = omega arith in
      rw (z, colour_step s n 0 at) (needed_each (Valued n env r) (λ k p. tt) s at _
      (λ e. absurd (f e), (λ e. absurd (g e), (λ e. obey_by (Valued n env r) (λ k p. tt) s at _ tt, (λ e. obey_by (Valued n env r) (λ k p. tt) s at _ tt, tt)))))

-- ---- guards
module _ (n : Net) (env : List ℕ) where
  opposite_of : (x : Answer Guard) (r : Tested) → GuardHeld n env r x → GuardHeld n env (record { holds = not r.holds; next = r.next }) (under opposite x)
  unfolding holds
  opposite_of (fine g next) r h = rw h
  opposite_of (fault k p) r h = tt

  -- two guards one after the other, joined
  module _ (join : Guard → Guard → Guard) (op : Bool → Bool → Bool) (joins : (a b : Guard) → holds n (bound env) (join a b) ≡ op (holds n (bound env) a) (holds n (bound env) b)) where
    second_of : (a : Guard) (p q : Tested) (next : ℕ) (y : Answer Guard) → p ≡ record { holds = holds n (bound env) a; next = next } → GuardHeld n env q y
        → GuardHeld n env (record { holds = op p.holds q.holds; next = q.next }) (under (join a) y)
    second_of a p q next (fine b end) e f = rw (e, f, joins a b)
    second_of a p q next (fault k i) e f = tt

    two_of_lem : (inner : ℕ → Answer Guard) (x : Answer Guard) (p q : Tested) → GuardHeld n env p x → GuardHeld n env q (inner p.next)
        → GuardHeld n env (record { holds = op p.holds q.holds; next = q.next }) (x and_then λ a next. under (join a) (inner next))
    two_of_lem inner (fine a next) p q e f = second_of a p q next (inner next) e (subst (λ i. GuardHeld n env q (inner i)) (ap (λ (r : Tested). r.next) e) f)
    two_of_lem inner (fault k i) p q e f = tt

  -- two colours one after the other, compared
  module _ (compare : Colour → Colour → Guard) (op : ℕ → ℕ → Bool) (compares : (a b : Colour) → holds n (bound env) (compare a b) ≡ op (colour n (bound env) a) (colour n (bound env) b)) (at : ℕ) where
    beside_of : (a : Colour) (p q : Value) (next : ℕ) (y : Answer Colour) → p ≡ record { colour = colour n (bound env) a; set = set_of n a; next = next } → Valued n env q y
        → GuardHeld n env (record { holds = op p.colour q.colour; next = q.next }) (y and_then λ b end. checked at ((6 unless eqb (set_of n a) (set_of n b)) ∷ []) (compare a b) end)
    beside_of a p q next (fine b end) e f = checked_by (GuardHeld n env _) (λ k i. tt) at _ (compare a b) end (rw (e, f, compares a b))
    beside_of a p q next (fault k i) e f = tt

    compared_of : (inner : ℕ → Answer Colour) (next : ℕ) (p q : Value) → Valued n env p (inner next) → Valued n env q (inner p.next)
        → GuardHeld n env (record { holds = op p.colour q.colour; next = q.next }) (comparison n inner compare at next)
    compared_of inner next p q = go (inner next)
      where
        go : (x : Answer Colour) → Valued n env p x → Valued n env q (inner p.next)
            → GuardHeld n env (record { holds = op p.colour q.colour; next = q.next })
            (x and_then λ a more. inner more and_then λ b end. checked at ((6 unless eqb (set_of n a) (set_of n b)) ∷ []) (compare a b) end)
        go (fine a more) e f = beside_of a p q more (inner more) e (subst (λ i. Valued n env q (inner i)) (ap (λ (r : Value). r.next) e) f)
        go (fault k i) e f = tt

  both_holds : (a b : Guard) → holds n (bound env) (both a b) ≡ holds n (bound env) a && holds n (bound env) b
  unfolding holds
  both_holds a b = refl

  either_holds : (a b : Guard) → holds n (bound env) (either a b) ≡ holds n (bound env) a || holds n (bound env) b
  unfolding holds
  either_holds a b = refl

  equal_holds : (a b : Colour) → holds n (bound env) (equal a b) ≡ eqb (colour n (bound env) a) (colour n (bound env) b)
  unfolding holds
  equal_holds a b = refl

  less_holds : (a b : Colour) → holds n (bound env) (less a b) ≡ ltb (colour n (bound env) a) (colour n (bound env) b)
  unfolding holds
  less_holds a b = refl

module _ (s : List ℕ) (n : Net) (env : List ℕ) (left at next : ℕ) (p q : Value) (first : Valued n env p (read_colour s n left next)) (second : Valued n env q (read_colour s n left p.next)) where
  pub either_compared : (how : Comparison) → GuardHeld n env (record { holds = test_of how p.colour q.colour; next = q.next }) (comparison n (read_colour s n left) (tree_of how) at next)
  either_compared Less = compared_of n env less ltb (less_holds n env) at (read_colour s n left) next p q first second
  either_compared Equal = compared_of n env equal eqb (equal_holds n env) at (read_colour s n left) next p q first second

-- two variables, by the bytes that stand from a place on
pub variables_compared : (s part : List ℕ) (n : Net) (env : List ℕ) (left at next : ℕ) (how : Comparison)
    → part ≡ slice_range s next (length s) → 4 ≤ length part → get_or part 0 0 ≡ 0x30 → get_or part 2 0 ≡ 0x30
    → GuardHeld n env (record { holds = test_of how (get_or env (get_or part 1 0) 0) (get_or env (get_or part 3 0) 0); next = next + 4 }) (comparison n (read_colour s n left) (tree_of how) at next)
variables_compared s part n env left at next how is four e f =
    let byte = λ (k : ℕ) (lt : k < length part). part_byte s part next k is lt in
    let zero_on : next + 0 ≡ next = omega arith in
    let end : next + 4 ≡ next + 2 + 2 = omega arith in
    let third : next + 3 ≡ next + 2 + 1 = omega arith in
    let opens : byte_at s next ≡ 0x30 = rw zero_on at (sym (byte 0 (omega arith)) ∙ e) in
    let x : get_or part 1 0 ≡ byte_at s (next + 1) = byte 1 (omega arith) in
    let y : get_or part 3 0 ≡ byte_at s (next + 2 + 1) = byte 3 (omega arith) ∙ ap (byte_at s) third in
    rw (x, y, end) (either_compared s n env left at next _ _ (variable_valued s n env left next opens) (variable_valued s n env left (next + 2) (sym (byte 2 (omega arith)) ∙ f)) how)

module _ (s : List ℕ) (n : Net) (env : List ℕ) (left at : ℕ) where
  -- 0x20
  pub always_held : byte_at s at ≡ 0x20 → GuardHeld n env (record { holds = true; next = at + 1 }) (read_guard s n left at)
  unfolding commands holds
  always_held e = rw (guard_step s n left at) (needed_by (GuardHeld n env _) (λ k p. tt) s at 0x20 _ e refl refl)

  -- 0x21, 0x22, 0x23, 0x24 and 0x25, with a level left
  module _ (le : 1 ≤ left) where
    pub opposite_held : (r : Tested) → GuardHeld n env r (read_guard s n (left - 1) (at + 1)) → byte_at s at ≡ 0x21 → GuardHeld n env (record { holds = not r.holds; next = r.next }) (read_guard s n left at)
    unfolding commands
    opposite_held r inner e =
        rw (guard_in s n left at le) (needed_by (GuardHeld n env _) (λ k p. tt) s at 0x21 _ e refl (opposite_of n env (read_guard s n (left - 1) (at + 1)) r inner))

    pub both_held : (p q : Tested) → GuardHeld n env p (read_guard s n (left - 1) (at + 1)) → GuardHeld n env q (read_guard s n (left - 1) p.next) → byte_at s at ≡ 0x22
        → GuardHeld n env (record { holds = p.holds && q.holds; next = q.next }) (read_guard s n left at)
    unfolding commands
    both_held p q f g e =
        rw (guard_in s n left at le) (needed_by (GuardHeld n env _) (λ k p. tt) s at 0x22 _ e refl
        (two_of_lem n env both ◌&&◌ (both_holds n env) (read_guard s n (left - 1)) (read_guard s n (left - 1) (at + 1)) p q f g))

    pub either_held : (p q : Tested) → GuardHeld n env p (read_guard s n (left - 1) (at + 1)) → GuardHeld n env q (read_guard s n (left - 1) p.next) → byte_at s at ≡ 0x23
        → GuardHeld n env (record { holds = p.holds || q.holds; next = q.next }) (read_guard s n left at)
    unfolding commands
    either_held p q f g e =
        rw (guard_in s n left at le) (needed_by (GuardHeld n env _) (λ k p. tt) s at 0x23 _ e refl
        (two_of_lem n env either ◌||◌ (either_holds n env) (read_guard s n (left - 1)) (read_guard s n (left - 1) (at + 1)) p q f g))

    pub equal_held : (r : Tested) → GuardHeld n env r (comparison n (read_colour s n (left - 1)) equal at (at + 1)) → byte_at s at ≡ 0x24 → GuardHeld n env r (read_guard s n left at)
    unfolding commands
    equal_held r inner e = rw (guard_in s n left at le) (needed_by (GuardHeld n env r) (λ k p. tt) s at 0x24 _ e refl inner)

    pub less_held : (r : Tested) → GuardHeld n env r (comparison n (read_colour s n (left - 1)) less at (at + 1)) → byte_at s at ≡ 0x25 → GuardHeld n env r (read_guard s n left at)
    unfolding commands
    less_held r inner e = rw (guard_in s n left at le) (needed_by (GuardHeld n env r) (λ k p. tt) s at 0x25 _ e refl inner)

  -- nothing is promised past the end, where no level is left for what is inside, and at a stray byte
  pub guard_past : (r : Tested) → length s ≤ at → GuardHeld n env r (read_guard s n left at)
  unfolding commands
  guard_past r le = rw (guard_step s n left at) (past_by (GuardHeld n env r) (λ k p. tt) s at _ refl le)

  pub guard_shut : (r : Tested) → left < 1 → (byte_at s at ≡ 0x20 → ⊥) → GuardHeld n env r (read_guard s n left at)
  unfolding commands
  guard_shut r lt f =
      let z : left ≡ 0 = omega arith in
      let shut = obey_by (GuardHeld n env r) (λ k p. tt) s at in
      rw (z, guard_step s n 0 at) (needed_each (GuardHeld n env r) (λ k p. tt) s at _
      (λ e. absurd (f e), (λ e. shut _ tt, (λ e. shut _ tt, (λ e. shut _ tt, (λ e. shut _ tt, (λ e. shut _ tt, tt)))))))

  pub guard_stray : (r : Tested) → (byte_at s at ≡ 0x20 → ⊥) → (byte_at s at ≡ 0x21 → ⊥) → (byte_at s at ≡ 0x22 → ⊥) → (byte_at s at ≡ 0x23 → ⊥) → (byte_at s at ≡ 0x24 → ⊥) → (byte_at s at ≡ 0x25 → ⊥)
      → GuardHeld n env r (read_guard s n left at)
  guard_stray r f g h i j k =
      rw (guard_step s n left at) (needed_each (GuardHeld n env r) (λ k p. tt) s at _
      (λ e. absurd (f e), (λ e. absurd (g e), (λ e. absurd (h e), (λ e. absurd (i e), (λ e. absurd (j e), (λ e. absurd (k e), tt)))))))
