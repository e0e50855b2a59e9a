use Rattle.std.proofs.Common.{◌≡◌, length, take, drop}
use Rattle.std.specs.List.{flat_map}
use Rattle.ddm_types.specs.ItemRuns.{run_numbers, AreRunsFrom}
use Rattle.ddm_types.proofs.item_table.count_items.Given as goal

abbrev pub invariant-loop-run : goal.invariant-loop-run
invariant-loop-run l = record {
  counted : l.count ≡ length (flat_map run_numbers (take l.run-index l.run-items));
  rest : AreRunsFrom l.count (drop l.run-index l.run-items);
}
