-- What a call for C gives back. Code 0 is a refusal, with its number and its place; codes 1 and 2 are answers; a number that
-- says nothing is 0. One equality with these fixes the code, every number and every list that was lent for writing.
use Rattle.std.specs.Prelude.{◌∷◌}
use Rattle.reading.specs.Basics.{ℕ, List, [], Option, none, some}
use Rattle.reading.specs.Reading.{Outcome, accepted, refused}
use Rattle.firing.specs.Firing.{First, found, nothing}
use Rattle.firing.specs.Calls.{FireCall}
use Rattle.flat_file.specs.Flat.{Sizes}
use Rattle.net_reader.specs.Sizes.{NetSizes}
use Rattle.row_numbers.specs.Unfolding.{WriteCall}

-- the code, the numbers behind `first`, `second` and `third`, and the lists lent for writing, as they are afterwards
pub record Returned : Type 0 where
  pub code : ℕ
  pub numbers : List ℕ
  pub lent : List (List ℕ)

abbrev pub returned : ℕ → List ℕ → List (List ℕ) → Returned
returned code numbers lent = record { code = code; numbers = numbers; lent = lent }

-- 1: how many flat places and rows
abbrev pub sizes_code : Outcome Sizes → Returned
sizes_code (accepted sizes) = returned 1 (sizes.places ∷ sizes.rows ∷ []) []
sizes_code (refused number place) = returned 0 (number ∷ place ∷ []) []

-- 1: how many flat places, transitions and bindings
abbrev pub net_code : Outcome NetSizes → Returned
net_code (accepted sizes) = returned 1 (sizes.places ∷ sizes.transitions ∷ sizes.bindings ∷ []) []
net_code (refused number place) = returned 0 (number ∷ place ∷ 0 ∷ []) []

-- 1: how many items were answered, or how many bytes written
abbrev pub count_code : Outcome ℕ → List (List ℕ) → Returned
count_code (accepted count) lent = returned 1 (count ∷ 0 ∷ []) lent
count_code (refused number place) lent = returned 0 (number ∷ place ∷ []) lent

-- with the marking and the answers
abbrev pub fire_code : FireCall → Returned
fire_code call = count_code call.result (call.marking ∷ call.answers ∷ [])

-- with the list that is written
abbrev pub write_code : WriteCall → Returned
write_code call = count_code call.result (call.out ∷ [])

-- 1: the row, and how many were tried; 2: none, and how many were tried
abbrev pub first_row_code : Outcome (First ℕ) → Returned
first_row_code (accepted (found row tried)) = returned 1 (row ∷ tried ∷ []) []
first_row_code (accepted (nothing tried)) = returned 2 (tried ∷ 0 ∷ []) []
first_row_code (refused number place) = returned 0 (number ∷ place ∷ []) []

-- 1: the order, and how many were tried; 2: none, and how many were tried. The lent order is as before where none is written
abbrev pub first_order_code : List ℕ → Outcome (First (List ℕ)) → Returned
first_order_code before (accepted (found order tried)) = returned 1 (tried ∷ 0 ∷ []) (order ∷ [])
first_order_code before (accepted (nothing tried)) = returned 2 (tried ∷ 0 ∷ []) (before ∷ [])
first_order_code before (refused number place) = returned 0 (number ∷ place ∷ []) (before ∷ [])

-- 1: the order; 2: no such row. The lent order is as before where none is written
abbrev pub row_order_code : List ℕ → Outcome (Option (List ℕ)) → Returned
row_order_code before (accepted (some order)) = returned 1 (0 ∷ 0 ∷ []) (order ∷ [])
row_order_code before (accepted none) = returned 2 (0 ∷ 0 ∷ []) (before ∷ [])
row_order_code before (refused number place) = returned 0 (number ∷ place ∷ []) (before ∷ [])
