-- How a memory is stored: a tag and words for each place, where place `set * ways + way` is that way of that set.
use Rattle.std.specs.Prelude.{◌≡◌, ℕ, ◌+◌, ◌*◌, ◌/◌, ◌%◌, ◌<◌, ◌≤◌, Bool, false, nat_eq, List, [], ◌∷◌, length}
use Rattle.std.specs.Prelude.{Option, Some, None, slice_index_or, IsSome}
use Rattle.std.specs.FinMap as map
use Rattle.ddm_types.specs.declared.sizes.LeafState.{LeafState}
use Rattle.attraction_mem.specs.Memory.{EntryValue, MemoryValue}

-- the entry of the item at this place, in this state
abbrev pub entry_at : ℕ → List (List ℕ) → ℕ → LeafState → EntryValue
entry_at ways words place state = record { way = place % ways; state = state; words = slice_index_or words place [] }

-- the items of the tags, the first of which is that of this place, with their entries
abbrev pub entries_from : ℕ → List (List ℕ) → ℕ → List (Option (ℕ × LeafState)) → List (ℕ × EntryValue)
entries_from ways words place [] = []
entries_from ways words place (None ∷ tags) = entries_from ways words (place + 1) tags
entries_from ways words place (Some t ∷ tags) = (t.0, entry_at ways words place t.1) ∷ entries_from ways words (place + 1) tags

-- the memory that is stored so
unfoldable pub memory_of : ℕ → ℕ → List (Option (ℕ × LeafState)) → List (List ℕ) → MemoryValue
memory_of ways sets tags words = record { sets = sets; entries = map.from_entries (entries_from ways words 0 tags) }

-- the item's tag is at this place, in this state
abbrev pub HasTag : List (Option (ℕ × LeafState)) → ℕ → ℕ → LeafState → Type 0
HasTag tags place item state = slice_index_or tags place None ≡ Some (item, state)

-- whether the tag is the item's
abbrev pub is_of : Option (ℕ × LeafState) → ℕ → Bool
is_of None item = false
is_of (Some t) item = nat_eq t.0 item

-- each of the ways of each set has a place, and these are not many
pub record IsSized (ways sets places : ℕ) : Type 0 where
  pub some_ways : 0 < ways
  pub few_ways : ways ≤ 4
  pub some_sets : 0 < sets
  pub few_sets : sets ≤ 4096
  pub count : places ≡ sets * ways

-- each place has a tag and words, an item stands in its own set, and no item twice
pub record IsKept (ways sets : ℕ) (tags : List (Option (ℕ × LeafState))) (words : List (List ℕ)) : Type 0 where
  pub sized : IsSized ways sets (length tags)
  pub word_places : length words ≡ length tags
  pub own : (place item : ℕ) (state : LeafState) → HasTag tags place item state → item % sets ≡ place / ways
  pub once : (p q item : ℕ) (s t : LeafState) → HasTag tags p item s → HasTag tags q item t → p ≡ q

-- the first so many places from here on are taken
abbrev pub AreTaken : List (Option (ℕ × LeafState)) → ℕ → ℕ → Type 0
AreTaken tags first count = (k : ℕ) → k < count → IsSome (slice_index_or tags (first + k) None)

-- the item has no tag in the ways from this place on
abbrev pub HasNoTag : List (Option (ℕ × LeafState)) → ℕ → ℕ → ℕ → Type 0
HasNoTag tags first count item = (k : ℕ) (state : LeafState) → first ≤ k → k < first + count → HasTag tags k item state → ⊥
