use Rattle.std.proofs.Common.{◌≡◌}
use Rattle.start_memory.specs.TreeModel.Start.Machine.{overlap_from}
use Rattle.start_memory.specs.Memory.{stacks_of}
use Rattle.start_memory.proofs.StackOverlaps.{overlap_at}
use Rattle.start_memory.proofs.overlaps.first_overlap.Given as goal

abbrev pub invariant-loop-hart : goal.invariant-loop-hart
invariant-loop-hart l = overlap_from l.fn.segments 0 (stacks_of l.fn.start) ≡ overlap_at l.fn.start l.fn.segments l.hart
