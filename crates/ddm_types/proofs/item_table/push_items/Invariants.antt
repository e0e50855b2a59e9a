use Rattle.std.proofs.Common.{◌≡◌, ◌++◌, ◌-◌, ◌≤◌, map}
use Rattle.std.specs.List.{range_with_len}
use Rattle.ddm_types.specs.ItemTable.{item_row}
use Rattle.ddm_types.specs.ItemRows.{row_of}
use Rattle.ddm_types.proofs.item_table.push_items.Given as goal

abbrev pub invariant-loop-number : goal.invariant-loop-number
invariant-loop-number l = record {
  made : map row_of l.rows.items ≡ map row_of l.initial.rows.items ++ map (item_row l.item_bytes l.spans) (range_with_len l.fn.run.first (l.number - l.fn.run.first));
  within : l.number - l.fn.run.first ≤ l.fn.run.end - l.fn.run.first;
}
