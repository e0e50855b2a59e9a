-- The item that has a byte.
use Rattle.std.proofs.Common.{◌≡◌, ℕ, ◌+◌, ◌<◌, ◌≤◌, true, Some, arith}
use Rattle.std.proofs.lemmas.List.Quantifiers.{position-Some}
use Rattle.rv_hart.specs.DdmTypes.ItemTable.{ItemTable, ItemRow, item_at, row_at, row_has, no_row}

row_from : (size a : ℕ) (row : ItemRow) → row_has size a row ≡ true → (row.address ≤ a) × (a < row.address + size)
row_from size a row h = grind arith

pub item_at_from : (items : ItemTable) (a x : ℕ) → item_at items a ≡ Some x → (row_at items x).address ≤ a
unfolding item_at
item_at_from items a x e = (row_from items.size a (row_at items x) (position-Some (row_has items.size a) items.rows x no_row e).1).0

pub item_at_below : (items : ItemTable) (a x : ℕ) → item_at items a ≡ Some x → a < (row_at items x).address + items.size
unfolding item_at
item_at_below items a x e = (row_from items.size a (row_at items x) (position-Some (row_has items.size a) items.rows x no_row e).1).1

-- The item that has a byte.
pub ruleset item_at_cases = (item_at_from, item_at_below)
