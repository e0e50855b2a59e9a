use Rattle.std.proofs.Common.{◌≡◌, map, take}
use Rattle.elf_load.specs.ElfFile.{header_span}
use Rattle.elf_load.proofs.sizes.header_spans.Given as goal

abbrev pub invariant-loop-header : goal.invariant-loop-header
invariant-loop-header l = l.spans.items ≡ map header_span (take l.header-index l.loaded)
