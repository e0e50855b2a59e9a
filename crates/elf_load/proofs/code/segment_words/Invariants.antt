use Rattle.std.proofs.Common.{◌≡◌}
use Rattle.elf_load.specs.CodeOf.{first_words}
use Rattle.elf_load.proofs.code.segment_words.Given as goal

abbrev pub invariant-loop-place : goal.invariant-loop-place
invariant-loop-place l = l.words.items ≡ first_words l.segment l.place
