use Rattle.std.proofs.Common.{◌≡◌, drop}
use Rattle.start_memory.specs.TreeModel.Start.Memory.{byte_at}
use Rattle.start_memory.proofs.words.byte_at.Given as goal

abbrev pub invariant-loop-segment : goal.invariant-loop-segment
invariant-loop-segment l = byte_at (drop l.segment-index l.segments) l.a ≡ byte_at l.segments l.a
