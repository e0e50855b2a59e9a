use Rattle.std.proofs.Common.{◌≡◌, ◌-◌, ◌*◌, drop, length, take}
use Rattle.std.specs.List.{flat_map}
use Rattle.std.specs.Int.{w32, to_le_bytes}
use Rattle.checkpoint.specs.StateWords.Parts.{op_words}
use Rattle.checkpoint.proofs.pieces.put_operations.Given as goal

-- the bytes of the operations so far
abbrev pub invariant-loop-place : goal.invariant-loop-place
invariant-loop-place l = record {
  bytes : l.line ≡ flat_map (to_le_bytes w32) (flat_map op_words (take (l.place - l.from) (drop l.from l.ops.items)));
  long : length l.line ≡ 60 * (l.place - l.from);
}
