-- What a bus sees that its children hold is what the tables place there.
-- Letters: n is a node, ns are nodes, x is an item.
-- To be believed with the contracts: they speak of it.
use Rattle.std.specs.Prelude.{◌≡◌, ℕ, Bool, false, List, length, slice_index_or}
use Rattle.std.specs.List.{AllByRecursion, list_any}
use Rattle.start_parts.specs.TreeModel.State.Values.{Node}
use Rattle.start_parts.specs.TreeModel.State.Child.{child_hold}
use Rattle.start_parts.specs.TreeModel.State.States.{is_exclusive}
use Rattle.start_parts.specs.TreeModel.Start.Nodes.{held_by}

-- the node holds the item Exclusive
abbrev pub has_exclusive : ℕ → Node → Bool
has_exclusive x n = is_exclusive (child_hold x n)

-- one of them does
abbrev pub some_exclusive : ℕ → List Node → Bool
some_exclusive x ns = list_any (has_exclusive x) ns

-- of so many items the node holds just those Exclusive that are placed below it
pub record IsHeld (items : ℕ) (n : Node) : Type 0 where
  pub count : length (held_by n) ≡ items
  pub agrees : (x : ℕ) → has_exclusive x n ≡ slice_index_or (held_by n) x false

abbrev pub AreHeld : ℕ → List Node → Type 0
AreHeld items ns = AllByRecursion (IsHeld items) ns
