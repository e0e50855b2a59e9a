-- Lists in order of arrival: what a buffer and a parking are seen as, and what their calls give.
use Rattle.std.specs.Prelude.{◌≡◌, ℕ, ◌^◌, ◌<◌, ◌≤◌, true, List, if◌then◌else◌}
use Rattle.replacement.specs.DdmTypes.declared.sizes.LeafState.{LeafState}
use Rattle.replacement.specs.TreeModel.State.Values.{BufferValue, CopyValue}
use Rattle.replacement.specs.TreeModel.State.Leaf.{is_buffered}
use Rattle.replacement.specs.TreeModel.State.Shape.{are_distinct}

-- the entries of a buffer in order of arrival, and how many there may be
pub record BufferList : Type 0 where
  pub list : List BufferValue
  pub capacity : ℕ

-- the parked copies in order of arrival, how many copies and reserved places there may be, and the reserved places
pub record ParkingList : Type 0 where
  pub list : List CopyValue
  pub capacity : ℕ
  pub reserved : ℕ

-- the entry in this state, if it is of the item
abbrev pub with_state : ℕ → LeafState → BufferValue → BufferValue
with_state x state e = if is_buffered x e then record e { state = state } else e

-- the entry with these words, if it is of the item
abbrev pub with_words : ℕ → List ℕ → BufferValue → BufferValue
with_words x words e = if is_buffered x e then record e { words = words } else e

-- No item stands twice. So many places are taken or reserved: no more than there may be.
pub record IsHeld (words : ℕ) (items : List ℕ) (taken capacity : ℕ) : Type 0 where
  pub once : are_distinct items ≡ true
  pub within : taken ≤ capacity
  pub small : capacity < 2 ^ 32
  pub words_fit : words < 2 ^ 32
