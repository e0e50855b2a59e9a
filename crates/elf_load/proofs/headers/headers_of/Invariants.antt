use Rattle.std.proofs.Common.{◌≡◌, map}
use Rattle.std.specs.List.{range_with_len}
use Rattle.elf_load.specs.ElfFile.{header_at}
use Rattle.elf_load.proofs.headers.headers_of.Given as goal

abbrev pub invariant-loop-number : goal.invariant-loop-number
invariant-loop-number l = l.headers.items ≡ map (header_at l.file) (range_with_len 0 l.number)
