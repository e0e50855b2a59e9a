use Rattle.std.proofs.Common.{◌≡◌, drop}
use Rattle.elf_load.specs.ElfFile.{first_refusal}
use Rattle.elf_load.proofs.refusal.first_refusal.Given as goal

abbrev pub invariant-loop-refusal : goal.invariant-loop-refusal
invariant-loop-refusal l = first_refusal l.refusals ≡ first_refusal (drop l.refusal-index l.refusals)
