use Rattle.std.proofs.Common.{take}
use Rattle.directory.specs.DdmText.Adds.{Adds}
use Rattle.directory.specs.StateWords.Parts.{records_from}
use Rattle.directory.proofs.table.ItemTable.write.Given as goal

abbrev pub invariant-loop-item : goal.invariant-loop-item
invariant-loop-item l = Adds l.initial.out.items l.out.items (records_from l.top 0 (take l.item l.self))
