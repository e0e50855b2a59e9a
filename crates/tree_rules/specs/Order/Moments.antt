-- Lists of numbers: stamps and keys with the child numbers of a path between them.
-- A path is the list of child numbers from the top. A bus with l buses above it has a path of l child numbers and stamps of
-- l + 1 numbers, and a moment on it has 2 l + 1. The bus above the top, which there isn't, has moments of no number.
-- To be believed where a rule is relied on; the order of the witness needs no reader here.
use Rattle.std.specs.Prelude.{◌≡◌, ℕ, ◌+◌, ◌*◌, ◌≤◌, Bool, true, false, ◌&&◌, nat_eq, List, [], ◌∷◌, length, take}
use Rattle.std.specs.List.{common_prefix_len}
use Rattle.tree_rules.specs.DdmTypes.declared.keys.Stamp.{Stamp}
use Rattle.tree_rules.specs.DdmTypes.Keys.{stamp_numbers, numbers_less}
use Rattle.tree_model.specs.State.Place.{Spot}

-- less, compared from the left
abbrev pub less : List ℕ → List ℕ → Bool
less a b = numbers_less a b

-- less in the first n numbers
abbrev pub less_at : ℕ → List ℕ → List ℕ → Bool
less_at n a b = less (take n a) (take n b)

-- the numbers of a stamp joined with the child numbers of the path of its bus: s0 c0 s1 c1 and so on up to the last stamp number
abbrev pub moment_of : List ℕ → List ℕ → List ℕ
moment_of [] path = []
moment_of (s ∷ stamp) [] = s ∷ []
moment_of (s ∷ stamp) (c ∷ path) = s ∷ c ∷ moment_of stamp path

-- the moment of a stamp on the bus with this path
abbrev pub moment_at : List ℕ → Stamp → List ℕ
moment_at path stamp = moment_of (stamp_numbers (length path) stamp) path

-- how many numbers a moment has on a bus with this many buses above it
abbrev pub moment_length : ℕ → ℕ
moment_length level = 2 * level + 1

-- the present moment on the bus of a child
abbrev pub spot_moment : Spot → List ℕ
spot_moment c = moment_at c.above c.present

-- a key, or a later moment, is before a moment: its leading numbers are less
abbrev pub before : List ℕ → List ℕ → Bool
before key moment = less (take (length moment) key) moment

-- a moment is past for a key: it is less than the key's leading numbers
abbrev pub past : List ℕ → List ℕ → Bool
past moment key = less moment (take (length moment) key)

-- the second list goes on from the first one, or from a lesser one: it doesn't run ahead of it
pub record GoesOn (f e : List ℕ) : Type 0 where
  pub longer : length e ≤ length f
  pub at_most : less e (take (length e) f) ≡ false

-- the child numbers of a key
abbrev pub key_path : List ℕ → List ℕ
key_path [] = []
key_path (s ∷ []) = []
key_path (s ∷ c ∷ key) = c ∷ key_path key

-- how many buses above it the bus has at which two paths part
abbrev pub parted : List ℕ → List ℕ → ℕ
parted path other = common_prefix_len nat_eq path other

-- the second path is the first one or goes on from it
abbrev pub is_under : List ℕ → List ℕ → Bool
is_under [] other = true
is_under (c ∷ path) [] = false
is_under (c ∷ path) (d ∷ other) = nat_eq c d && is_under path other

abbrev pub same_numbers : List ℕ → List ℕ → Bool
same_numbers [] [] = true
same_numbers [] (n ∷ ns) = false
same_numbers (m ∷ ms) [] = false
same_numbers (m ∷ ms) (n ∷ ns) = nat_eq m n && same_numbers ms ns
