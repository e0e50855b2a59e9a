use Rattle.std.proofs.Common.{◌≡◌, ◌≤◌, ◌*◌, take}
use Rattle.std.specs.Prelude.{sum_by}
use Rattle.elf_load.specs.ElfFile.{code_bytes_of}
use Rattle.elf_load.proofs.sizes.code_bytes.Given as goal

abbrev pub invariant-loop-header : goal.invariant-loop-header
invariant-loop-header l = record {
  so_far : l.bytes ≡ sum_by code_bytes_of (take l.header-index l.loaded);
  bound : l.bytes ≤ l.header-index * 0x100000000;
}
