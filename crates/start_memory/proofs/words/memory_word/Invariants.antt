use Rattle.std.proofs.Common.{◌≡◌, drop}
use Rattle.start_memory.specs.TreeModel.Start.Memory.{memory_word}
use Rattle.start_memory.proofs.words.memory_word.Given as goal

abbrev pub invariant-loop-segment : goal.invariant-loop-segment
invariant-loop-segment l = memory_word (drop l.segment-index l.segments) l.a ≡ memory_word l.segments l.a
