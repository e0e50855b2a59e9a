use Rattle.std.proofs.Common.{◌≡◌, ◌++◌, drop}
use Rattle.elf_load.specs.Written.{halves}
use Rattle.elf_load.proofs.writing.push_halves.Given as goal

abbrev pub invariant-loop-half : goal.invariant-loop-half
invariant-loop-half l = l.fn.file.items ++ halves l.numbers ≡ l.file.items ++ halves (drop l.half-index l.numbers)
