use Rattle.std.proofs.Common.{take}
use Rattle.std.specs.List.{flat_map}
use Rattle.ddm_tree.specs.DdmText.Adds.{Adds}
use Rattle.ddm_tree.specs.TreeModel.Turns.Machine.{machine_leaves}
use Rattle.ddm_tree.specs.StateWords.Parts.{hart_words}
use Rattle.ddm_tree.proofs.machine.Machine.write_harts.Given as goal

abbrev pub invariant-loop-leaf : goal.invariant-loop-leaf
invariant-loop-leaf g l = Adds l.initial.out.items l.out.items (flat_map hart_words (take l.leaf (machine_leaves l.self.machine)))
