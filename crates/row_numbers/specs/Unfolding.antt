-- Unfolding a net, the images of orders, and the way back.
use Rattle.std.specs.Prelude.{◌+◌, ◌*◌, ◌/◌, ◌%◌, ◌∷◌, ◌++◌, if◌then◌else◌}
use Rattle.reading.specs.Basics.{ℕ, zero, suc, List, [], map, flat_map, filter_map, Option, option_map, length, get_elem?, ltb, leb, eqb, given, position, same, long, items, over}
use Rattle.reading.specs.Reading.{Outcome, accepted, refused, on, CallCheck, ◌when_not◌, permitted}
use Rattle.firing.specs.Firing.{Weights}
use Rattle.flat_file.specs.Flat.{Flat, write_flat}
use Rattle.net.specs.Net.{Net, tokens_on}
use Rattle.net_file.specs.NetFile.{read_net}
use Rattle.bindings.specs.Effect.{FlatPlace, bindings, flat_places, effect, flat_row}
use Rattle.bindings.specs.Orders.{order_of}

-- ---- the unfolded net
-- a binding that has a row: its order, and its weights
pub record Rowed : Type 0 where
  pub order : List ℕ
  pub weights : Weights

-- the rows: one for each binding that has an effect, in the order of bindings
unfoldable pub rows : Net → List Rowed
rows n = filter_map (λ b. option_map (λ w. record { order = order_of b; weights = w }) (effect n b)) (bindings n)

-- the tokens that a flat place starts with, 0 where none are named
abbrev pub initial_at : Net → FlatPlace → ℕ
initial_at n f = given (tokens_on n.tokens f.place f.rank) 0 λ t. t.count

-- the flat net, and the flat file
unfoldable pub unfolded : Net → Flat
unfolded n = record { initial = map (initial_at n) (flat_places n); rows = map (λ r. flat_row n r.weights) (rows n) }

abbrev pub flat_file : Net → List ℕ
flat_file n = write_flat (unfolded n)

-- ---- images, and the way back
-- the row of an order, 4,294,967,295 where no row has that order
unfoldable pub row_number : Net → List ℕ → ℕ
row_number n order = given (position (λ r. same r.order order) (rows n)) 4294967295 λ i. i

-- the order of a row, none where it is not below the row count
unfoldable pub order_of_row : Net → ℕ → Option (List ℕ)
order_of_row n i = option_map (λ r. r.order) (get_elem? (rows n) i)

-- the image that carries a row number; the images of a list of orders, in their sequence
abbrev pub image : ℕ → List ℕ
image i = 0x61 ∷ long i

unfoldable pub images : Net → List ℕ → List ℕ
images n orders = flat_map (λ order. image (row_number n order)) (items 6 orders)

-- ---- the calls
-- what a call gives that writes: a number, or a refusal; and the lent list afterwards
pub record WriteCall : Type 0 where
  pub result : Outcome ℕ
  pub out : List ℕ

-- some bytes over the lent list, and a number with them; a refusal leaves it as it was
abbrev pub writing : (Net → List CallCheck) → (Net → ℕ) → (Net → List ℕ) → List ℕ → List ℕ → WriteCall
writing checks number bytes s out =
    on (permitted checks (read_net s)) (λ refusal place. record { result = refused refusal place; out = out })
    λ n. record { result = accepted (number n); out = over (bytes n) out }

-- unfold: net file, lent output; it returns the flat file's length
unfoldable pub unfold_call : List ℕ → List ℕ → WriteCall
unfold_call s out = writing (λ n. (14 when_not leb (length (flat_file n)) (length out)) ∷ []) (λ n. length (flat_file n)) flat_file s out

-- images: net file, orders, lent output; it returns how many
unfoldable pub images_call : List ℕ → List ℕ → List ℕ → WriteCall
images_call s orders out =
    let count = length orders / 6 in
    writing (λ n. (13 when_not eqb (length orders % 6) 0) ∷ (14 when_not leb (count * 5) (length out)) ∷ []) (λ n. count) (λ n. images n orders) s out

-- the order of a row number: net file, row number
unfoldable pub order_call : List ℕ → ℕ → Outcome (Option (List ℕ))
order_call s i = on (read_net s) refused λ n. accepted (order_of_row n i)

-- ---- the program
-- a number in tens, of at most so many digits
unfoldable pub decimal : ℕ → ℕ → List ℕ
decimal zero n = []
decimal (suc digits) n = (if ltb n 10 then [] else decimal digits (n / 10)) ++ ((0x30 + n % 10) ∷ [])

-- "refused " number " at " place, and 0x0A
abbrev pub line : ℕ → ℕ → List ℕ
line number place =
    (0x72 ∷ 0x65 ∷ 0x66 ∷ 0x75 ∷ 0x73 ∷ 0x65 ∷ 0x64 ∷ 0x20 ∷ []) ++ decimal 5 number ++ (0x20 ∷ 0x61 ∷ 0x74 ∷ 0x20 ∷ []) ++ decimal 5 place ++ (0x0A ∷ [])

-- what it writes: the flat file, of 64 KiB at most (14), or the line of a refusal
abbrev pub fits_program : Net → List CallCheck
fits_program n = (14 when_not leb (length (flat_file n)) 65536) ∷ []

unfoldable pub program : List ℕ → List ℕ
program s = on (permitted fits_program (read_net s)) line flat_file
