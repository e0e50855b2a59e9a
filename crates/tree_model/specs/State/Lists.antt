-- Maps, tests and searches over a list that see each element's index, and the first element of a list.
-- To be believed: it is what the machine is.
use Rattle.std.specs.Prelude.{ℕ, ◌+◌, ◌%◌, Bool, true, false, ◌&&◌, nat_eq, List, [], ◌∷◌, length, Option, Some, None}
use Rattle.std.specs.Prelude.{option_map, slice_get, if◌then◌else◌}
use Rattle.std.specs.List.{list_all}

module _ {X : Type 0} where
  -- g of each index and element, where the first element has the index i
  abbrev pub map_from : (ℕ → X → X) → ℕ → List X → List X
  map_from g i [] = []
  map_from g i (x ∷ xs) = g i x ∷ map_from g (i + 1) xs

  -- each element passes
  abbrev pub all_from : (ℕ → X → Bool) → ℕ → List X → Bool
  all_from t i [] = true
  all_from t i (x ∷ xs) = t i x && all_from t (i + 1) xs

  -- the index of the first element that passes
  abbrev pub find_from : (ℕ → X → Bool) → ℕ → List X → Option ℕ
  find_from t i [] = None
  find_from t i (x ∷ xs) = if t i x then Some i else find_from t (i + 1) xs

  -- each element passes with every one behind it
  abbrev pub all_pairs : (X → X → Bool) → List X → Bool
  all_pairs t [] = true
  all_pairs t (x ∷ xs) = list_all (t x) xs && all_pairs t xs

  -- the list without its first element that passes
  abbrev pub without_first : (X → Bool) → List X → List X
  without_first t [] = []
  without_first t (x ∷ xs) = if t x then xs else x ∷ without_first t xs

  abbrev pub first_of : List X → Option X
  first_of [] = None
  first_of (x ∷ xs) = Some x

  -- all but the first
  abbrev pub rest_of : List X → List X
  rest_of [] = []
  rest_of (x ∷ xs) = xs

  abbrev pub has_some : List X → Bool
  has_some [] = false
  has_some (x ∷ xs) = true

  -- the first of two that is there
  abbrev pub first_some : Option X → Option X → Option X
  first_some None o = o
  first_some (Some x) o = Some x

  abbrev pub some_if : Bool → X → Option X
  some_if b x = if b then Some x else None

  -- ---- lists of entries that each name an item

  abbrev pub names_item : (X → ℕ) → ℕ → X → Bool
  names_item item x e = nat_eq x (item e)

  -- the item of entry `choice mod m` of the m entries
  abbrev pub chosen : (X → ℕ) → ℕ → List X → Option ℕ
  chosen item choice [] = None
  chosen item choice (e ∷ es) = option_map item (slice_get (e ∷ es) (choice % length (e ∷ es)))

module _ {X Y : Type 0} where
  -- what the first element that gives something gives
  abbrev pub first_given : (ℕ → X → Option Y) → ℕ → List X → Option Y
  first_given g i [] = None
  first_given g i (x ∷ xs) = first_some (g i x) (first_given g (i + 1) xs)
