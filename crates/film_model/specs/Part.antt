-- A part of what a machine has: a key that says which one, and its value as text; and what changes between two lists of them.
-- Letters: p and q are parts.
-- To be believed: it is the written format.
use Rattle.std.specs.Prelude.{ℕ, ◌+◌, Bool, not, List, [], ◌∷◌, ◌++◌, codes, decimal, filter, flat_map, if◌then◌else◌, bytes_eq}

-- The value is empty, or begins with a space.
pub record Part : Type 0 where
  pub key : List ℕ
  pub value : List ℕ

-- its line
unfoldable pub part_line : Part → List ℕ
part_line p = p.key ++ p.value ++ codes "\n"

-- ---- keys: a word, and the numbers of what it is of

unfoldable pub key_of : List ℕ → ℕ → List ℕ
key_of word number = word ++ codes " " ++ decimal number

unfoldable pub item_key_of : List ℕ → ℕ → ℕ → List ℕ
item_key_of word number x = key_of word number ++ codes " " ++ decimal x

-- ---- values

-- a space and a number
unfoldable pub number_text : ℕ → List ℕ
number_text n = codes " " ++ decimal n

-- a space and numbers with full stops between them
unfoldable pub stamp_text : List ℕ → List ℕ
stamp_text [] = []
stamp_text (n ∷ ns) = number_text n ++ flat_map (λ k. codes "." ++ decimal k) ns

-- the entries of a list, from the front on
unfoldable pub listed : {X : Type 0} → (X → List ℕ) → List X → List ℕ
listed entry xs = flat_map (λ x. codes " |" ++ entry x) xs

-- a part for each element of a list, whose first has the number x
unfoldable pub numbered : {X : Type 0} → (ℕ → X → Part) → ℕ → List X → List Part
numbered part x [] = []
numbered part x (e ∷ es) = part x e ∷ numbered part (x + 1) es

-- ---- lines of parts

abbrev pub has_value : Part → Bool
has_value p = not (bytes_eq p.value [])

-- of those that have a value
unfoldable pub valued : List Part → List ℕ
valued ps = flat_map part_line (filter has_value ps)

-- the parts whose value differs from that in an earlier list of the same keys
abbrev pub changes : List Part → List Part → List Part
changes [] qs = []
changes (p ∷ ps) [] = []
changes (p ∷ ps) (q ∷ qs) = if bytes_eq p.value q.value then changes ps qs else q ∷ changes ps qs

-- their lines
unfoldable pub changed : List Part → List Part → List ℕ
changed ps qs = flat_map part_line (changes ps qs)
