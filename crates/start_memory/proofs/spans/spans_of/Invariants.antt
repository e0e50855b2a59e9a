use Rattle.std.proofs.Common.{◌≡◌, ◌++◌, map, take}
use Rattle.std.specs.List.{range_with_len}
use Rattle.start_memory.specs.TreeModel.Start.Sources.{segment_span}
use Rattle.start_memory.specs.Memory.{stack_of}
use Rattle.start_memory.proofs.spans.spans_of.Given as goal

abbrev pub invariant-loop-segment : goal.invariant-loop-segment
invariant-loop-segment l = l.spans.items ≡ map segment_span (take l.segment-index l.segments)

abbrev pub invariant-loop-hart : goal.invariant-loop-hart
invariant-loop-hart l = l.spans.items ≡ map segment_span l.segments ++ map (stack_of l.start) (range_with_len 0 l.hart)
