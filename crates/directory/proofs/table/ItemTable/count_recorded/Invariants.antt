use Rattle.std.proofs.Common.{◌≡◌, ◌≤◌, take}
use Rattle.std.specs.Prelude.{count_by}
use Rattle.directory.specs.StateWords.Parts.{is_recorded}
use Rattle.directory.proofs.table.ItemTable.count_recorded.Given as goal

abbrev pub invariant-loop-item : goal.invariant-loop-item
invariant-loop-item l = (l.count ≡ count_by (is_recorded l.top) (take l.item l.self)) × (l.count ≤ l.item)
