use Rattle.std.proofs.Common.{◌≡◌, [], take, drop}
use Rattle.elf_load.specs.ElfFile.{headers_refusal}
use Rattle.elf_load.proofs.header_rules.headers_refusal.Given as goal

abbrev pub invariant-loop-k : goal.invariant-loop-k
invariant-loop-k l = headers_refusal l.file_length [] l.headers ≡ headers_refusal l.file_length (take l.k l.headers) (drop l.k l.headers)
