use Rattle.std.proofs.Common.{take}
use Rattle.elf_load.specs.CodeOf.{ArePartsOf}
use Rattle.elf_load.proofs.code.parts_of.Given as goal

abbrev pub invariant-loop-segment : goal.invariant-loop-segment
invariant-loop-segment l = ArePartsOf (take l.segment-index l.segments) l.parts.items
