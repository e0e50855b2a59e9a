-- A list of leaves, as a word of a command spells it.
use Rattle.std.specs.Prelude.{ℕ, Bool, nat_eq, List, [], ◌∷◌, ◌++◌}
use Rattle.std.specs.Prelude.{Option, Some, None, if◌then◌else◌}
use Rattle.std.specs.List.{list_any, slice_split}
use Rattle.std.specs.Option.{option_and_then}
use Rattle.std.specs.Result.{result_ok}
use Rattle.ddm_text.specs.Numbers.{number_of}

-- a comma
abbrev pub is_comma : ℕ → Bool
is_comma byte = nat_eq byte 44

-- 0 to 63, in its one spelling
unfoldable pub leaf_of : List ℕ → Option ℕ
leaf_of piece = result_ok (number_of piece 63)

abbrev pub unless_among : List ℕ → ℕ → Option ℕ
unless_among leaves leaf = if list_any (nat_eq leaf) leaves then None else Some leaf

-- the next leaf, which is another one than those before
abbrev pub next_leaf : List ℕ → List ℕ → Option ℕ
next_leaf leaves piece = option_and_then (unless_among leaves) (leaf_of piece)

unfoldable pub places_from : List ℕ → List (List ℕ) → Option (List ℕ)
places_from leaves [] = Some leaves
places_from leaves (p ∷ ps) = option_and_then (λ leaf. places_from (leaves ++ leaf ∷ []) ps) (next_leaf leaves p)

-- the different leaves that a word names, with commas between them; None where it is no such list
unfoldable pub places_in : List ℕ → Option (List ℕ)
places_in word = places_from [] (slice_split is_comma word)
