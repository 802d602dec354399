-- What the colours of a binding give: each variable a colour of its set. Assumes nothing.
use Rattle.std.specs.Prelude.{◌∷◌, if◌then◌else◌}
use mathlib.Core.Path.{◌≡◌, refl}
use Prim.Native.Nat.{◌<◌}
use native.Mathlib.Omega.{arith}
use borrow.Author.Tests.{eqb-true}
use Rattle.reading.specs.Basics.{ℕ, Bool, true, false, List, [], map, get_or, eqb}
use Rattle.reading.proofs.Lists.{In}
use Rattle.net.specs.Net.{Net, size_of, variables_of, transition_at}
use Rattle.net_file.specs.Limits.{Limits}
use Rattle.net_file.specs.Formed.{Fitting}
use Rattle.bindings.specs.Effect.{Binding, bindings, stands_for}
use Rattle.bindings.proofs.Bindings.{Fit, more, binding-fits}

-- colours below the sizes of some variables stand below the size of each; a variable that is not among them has the colour 0
pub stands_below : (size : ℕ → ℕ) (variables : List ℕ) {colours : List ℕ} → Fit (map size variables) colours → (v : ℕ) → 0 < size v → stands_for variables colours v < size v
unfolding stands_for
stands_below size [] f v lt = lt
stands_below size (w ∷ variables) (more {c = c} {colours = colours} h f) v lt = go (eqb v w) refl (stands_below size variables f v lt)
  where
    go : (t : Bool) → eqb v w ≡ t → stands_for variables colours v < size v → (if t then c else stands_for variables colours v) < size v
    go true e ih = rw (eqb-true v w e) h
    go false e ih = ih

-- the variables of a net under one of its bindings
pub binding_stands : (n : Net) → Limits n → {b : Binding} → In b (bindings n) → Fitting n (stands_for (variables_of n (transition_at n b.transition)) b.colours)
binding_stands n l {b} i v lt =
    let p = (l.sizes (get_or n.variables v 0) (l.variable_sets v lt)).0 in
    stands_below (λ w. size_of n (get_or n.variables w 0)) (variables_of n (transition_at n b.transition)) (binding-fits n i).1 v (omega arith)
