use Rattle.std.proofs.Common.{◌≡◌, length, map, take}
use Rattle.ddm_cli.specs.TextModel.Faults.{shown_byte}
use Rattle.ddm_cli.proofs.unknown_key.shown.Given as goal

abbrev pub invariant-loop-byte : goal.invariant-loop-byte
invariant-loop-byte l = record {
  shown : l.line ≡ map shown_byte (take l.byte-index l.piece);
  size : length l.line ≡ l.byte-index;
}
