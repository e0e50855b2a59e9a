use Rattle.std.proofs.Common.{◌≡◌, ◌+◌, ◌≤◌, ◌++◌, length, drop}
use Rattle.elf_load.specs.Written.{program_headers, segment_bytes}
use Rattle.elf_load.proofs.writing.push_program_headers.Given as goal

abbrev pub invariant-loop-segment : goal.invariant-loop-segment
invariant-loop-segment l = record {
  whole : l.fn.file.items ++ program_headers l.first l.segments ≡ l.file.items ++ program_headers l.offset (drop l.segment-index l.segments);
  room : l.offset + length (segment_bytes (drop l.segment-index l.segments)) ≤ 4194304;
}
