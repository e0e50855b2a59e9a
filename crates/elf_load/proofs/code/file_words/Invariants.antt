use Rattle.std.proofs.Common.{◌≡◌, ◌≤◌}
use Rattle.std.specs.Prelude.{vec_capacity, vec_len}
use Rattle.elf_load.specs.CodeOf.{first_words, word_count}
use Rattle.elf_load.proofs.code.file_words.Given as goal

abbrev pub invariant-loop-place : goal.invariant-loop-place
invariant-loop-place l = record {
  words : l.words.items ≡ first_words l.segment l.place;
  length : vec_len l.words ≡ l.place;
  room : word_count l.segment ≤ vec_capacity l.words;
}
