-- The rows of a table of items, as they are stored.
use Rattle.std.specs.Prelude.{ℕ, ◌+◌, ◌≤◌, List, length, AllPairs}
use Rattle.ddm_types.specs.declared.item_table.Row.{Row}
use Rattle.ddm_types.specs.declared.item_table.TheConstants.{MOST_ITEMS}
use Rattle.ddm_types.specs.ItemTable.{ItemRow}

-- the row as contracts see it
abbrev pub row_of : Row → ItemRow
row_of r = record { address = r.address; writable = r.writable }

-- the items are in order of address, none reaches into the next one, and they are not too many
pub record AreRows (size : ℕ) (rows : List Row) : Type 0 where
  pub in_order : AllPairs (λ r q. r.address + size ≤ q.address) rows
  pub few : length rows ≤ MOST_ITEMS
