use Rattle.std.proofs.Common.{◌≡◌, ◌+◌, ◌*◌, ◌++◌, length, take}
use Rattle.std.specs.List.{flat_map}
use Rattle.std.specs.Int.{w32, to_le_bytes}
use Rattle.checkpoint.proofs.pieces.put_words.Given as goal

-- the bytes of the words so far
abbrev pub invariant-loop-word : goal.invariant-loop-word
invariant-loop-word l = record {
  bytes : l.line ≡ l.initial.line ++ flat_map (to_le_bytes w32) (take l.word-index l.words);
  long : length l.line ≡ length l.initial.line + 4 * l.word-index;
}
