use Rattle.std.proofs.Common.{◌≡◌, drop}
use Rattle.std.specs.Prelude.{find}
use Rattle.elf_load.specs.ElfFile.{meets}
use Rattle.elf_load.proofs.header_rules.overlap_refusal.Given as goal

abbrev pub invariant-loop-other : goal.invariant-loop-other
invariant-loop-other l = find (meets l.header) l.earlier ≡ find (meets l.header) (drop l.other-index l.earlier)
