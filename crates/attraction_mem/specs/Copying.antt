-- A memory becomes a copy of another one.
use Rattle.std.specs.Prelude.{◌≡◌, ℕ, ◌+◌, ◌/◌, ◌<◌, ◌≤◌, List, [], length, Option, None, slice_index_or}
use Rattle.ddm_types.specs.declared.sizes.LeafState.{LeafState}
use Rattle.attraction_mem.specs.Places.{HasTag}

-- so many places from the first one on are as in the other list, and all others are as they were
pub record IsCopied {A : Type 0} (d : A) (old from new : List A) (first count : ℕ) : Type 0 where
  pub size : length new ≡ length old
  pub here : (k : ℕ) → first ≤ k → k < first + count → slice_index_or new k d ≡ slice_index_or from k d
  pub elsewhere : (k : ℕ) → (first ≤ k → k < first + count → ⊥) → slice_index_or new k d ≡ slice_index_or old k d

-- a set with no mark holds nothing
abbrev pub IsFreeUnmarked : ℕ → List (Option (ℕ × LeafState)) → List ℕ → Type 0
IsFreeUnmarked ways tags marks = (place : ℕ) → slice_index_or marks (place / ways) 0 ≡ 0 → slice_index_or tags place None ≡ None

-- two lists of words agree at each place where an item is held
abbrev pub AgreeWhereTagged : List (Option (ℕ × LeafState)) → List (List ℕ) → List (List ℕ) → Type 0
AgreeWhereTagged tags words others =
    (place item : ℕ) (state : LeafState) → HasTag tags place item state → slice_index_or others place [] ≡ slice_index_or words place []
