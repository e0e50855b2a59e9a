use Rattle.std.proofs.Common.{◌≡◌, ◌++◌, drop}
use Rattle.elf_load.specs.Written.{words}
use Rattle.elf_load.proofs.writing.push_words.Given as goal

abbrev pub invariant-loop-word : goal.invariant-loop-word
invariant-loop-word l = l.fn.file.items ++ words l.numbers ≡ l.file.items ++ words (drop l.word-index l.numbers)
