use Rattle.std.proofs.Common.{◌≡◌, ◌*◌, ◌++◌, drop, take}
use Rattle.std.specs.List.{flat_map}
use Rattle.std.specs.Int.{w32, to_le_bytes}
use Rattle.checkpoint.proofs.file.write_words.Given as goal

-- the words so far, and the bytes of the others
abbrev pub invariant-loop-at : goal.invariant-loop-at
invariant-loop-at l = flat_map (to_le_bytes w32) (take l.at l.words) ++ drop (4 * l.at) l.bytes ≡ l.bytes
