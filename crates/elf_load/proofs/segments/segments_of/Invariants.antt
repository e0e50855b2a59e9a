use Rattle.std.proofs.Common.{◌≡◌, map, take}
use Rattle.elf_load.specs.ElfFile.{segment_of}
use Rattle.elf_load.proofs.segments.segments_of.Given as goal

abbrev pub invariant-loop-header : goal.invariant-loop-header
invariant-loop-header l = l.segments.items ≡ map (segment_of l.file) (take l.header-index l.loaded)
