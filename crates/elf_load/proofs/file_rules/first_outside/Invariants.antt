use Rattle.std.proofs.Common.{◌≡◌}
use Rattle.std.specs.Prelude.{find}
use Rattle.std.specs.List.{range_with_len}
use Rattle.elf_load.specs.ElfFile.{is_outside}
use Rattle.elf_load.proofs.Finds.{find_between}
use Rattle.elf_load.proofs.file_rules.first_outside.Given as goal

abbrev pub invariant-loop-number : goal.invariant-loop-number
invariant-loop-number l = find (is_outside l.file) (range_with_len 0 l.count) ≡ find_between (is_outside l.file) l.number l.count
