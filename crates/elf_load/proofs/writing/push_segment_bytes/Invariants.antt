use Rattle.std.proofs.Common.{◌≡◌, ◌++◌, drop}
use Rattle.elf_load.specs.Written.{segment_bytes}
use Rattle.elf_load.proofs.writing.push_segment_bytes.Given as goal

abbrev pub invariant-loop-segment : goal.invariant-loop-segment
invariant-loop-segment l = l.fn.file.items ++ segment_bytes l.segments ≡ l.file.items ++ segment_bytes (drop l.segment-index l.segments)
