use Rattle.std.proofs.Common.{◌≡◌, drop}
use Rattle.start_memory.specs.TreeModel.Start.Machine.{header_met}
use Rattle.start_memory.proofs.overlaps.header_met.Given as goal

abbrev pub invariant-loop-segment : goal.invariant-loop-segment
invariant-loop-segment l = header_met l.stack (drop l.segment-index l.segments) ≡ header_met l.stack l.segments
