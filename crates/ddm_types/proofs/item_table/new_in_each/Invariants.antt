use Rattle.std.proofs.Common.{◌≡◌, ◌++◌, drop}
use Rattle.ddm_types.specs.ItemRuns.{swept}
use Rattle.ddm_types.proofs.item_table.new_in_each.Given as goal

abbrev pub invariant-loop-run : goal.invariant-loop-run
invariant-loop-run l = l.runs.items ++ swept l.next (drop l.run-index l.overlapped) ≡ swept 0 l.overlapped
