-- For each set a mark of each class of items that may stand in it: the classes are the items' numbers where the set's is taken away, by
-- 64, and a set's marks are the bits of a word.
use Rattle.std.specs.Prelude.{◌≡◌, ℕ, ◌/◌, ◌%◌, ◌^◌, Bool, true, List, length, Option, slice_index_or, slice_set, bit_or, nat_eq}
use Rattle.std.specs.Int.{bit_at}
use Rattle.ddm_types.specs.declared.sizes.LeafState.{LeafState}
use Rattle.attraction_mem.specs.Places.{HasTag}

abbrev pub class_of : ℕ → ℕ → ℕ
class_of sets item = item / sets % 64

-- the marks of the item's set
abbrev pub marks_of : ℕ → ℕ → List ℕ → ℕ
marks_of sets item marks = slice_index_or marks (item % sets) 0

-- the item's class is marked in its set
abbrev pub is_marked : ℕ → ℕ → List ℕ → Bool
is_marked sets item marks = nat_eq (bit_at (marks_of sets item marks) (class_of sets item)) 1

-- and these are the marks where it is marked besides the others
abbrev pub marked : ℕ → ℕ → List ℕ → List ℕ
marked sets item marks = slice_set marks (item % sets) (bit_or (marks_of sets item marks) (2 ^ class_of sets item))

-- each set has its marks, and where an item stands its class is marked
pub record AreMarked (sets : ℕ) (tags : List (Option (ℕ × LeafState))) (marks : List ℕ) : Type 0 where
  pub count : length marks ≡ sets
  pub each : (place item : ℕ) (state : LeafState) → HasTag tags place item state → is_marked sets item marks ≡ true
