use Rattle.std.proofs.Common.{take}
use Rattle.std.specs.List.{flat_map}
use Rattle.ddm_tree.specs.DdmText.Adds.{Adds}
use Rattle.ddm_tree.specs.StateWords.Parts.{op_words}
use Rattle.ddm_tree.proofs.writing.push_ops.Given as goal

abbrev pub invariant-loop-place : goal.invariant-loop-place
invariant-loop-place l = Adds l.initial.out.items l.out.items (flat_map op_words (take l.place l.ops.items))
