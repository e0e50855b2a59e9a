use Rattle.std.proofs.Common.{◌≡◌, map, take}
use Rattle.std.specs.List.{flat_map}
use Rattle.ddm_types.specs.ItemTable.{item_row}
use Rattle.ddm_types.specs.ItemRuns.{run_numbers}
use Rattle.ddm_types.specs.ItemRows.{row_of}
use Rattle.ddm_types.proofs.item_table.Items.from_spans.Given as goal

abbrev pub invariant-loop-run : goal.invariant-loop-run
invariant-loop-run l = map row_of l.rows.items ≡ map (item_row l.item_bytes l.spans) (flat_map run_numbers (take l.run-index l.run-items))
