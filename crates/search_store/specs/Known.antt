-- The words of states as plain lists.
-- Letters: ks are the words of states by number.
-- To be believed with the contracts: they speak of it.
use Rattle.std.specs.Prelude.{ℕ, suc, Bool, nat_eq, List, [], ◌∷◌, Option, Some, None, option_map, if◌then◌else◌}
use Rattle.std.specs.Cmp.Lexicographic.{pointwise}
use Rattle.std.specs.Global.{Vec}

abbrev pub items_of : {X : Type 0} → Vec X → List X
items_of v = v.items

abbrev pub same_words : List ℕ → List ℕ → Bool
same_words a b = pointwise nat_eq a b

-- the number of the first state with these words
abbrev pub place_of : List ℕ → List (List ℕ) → Option ℕ
place_of words [] = None
place_of words (k ∷ ks) = if same_words words k then Some 0 else option_map suc (place_of words ks)
