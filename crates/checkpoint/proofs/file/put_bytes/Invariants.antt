use Rattle.std.proofs.Common.{◌≡◌, ◌+◌, ◌%◌, ◌++◌, length, take}
use Rattle.checkpoint.specs.FileBytes.{bytes_in, rest_bytes}
use Rattle.checkpoint.proofs.file.put_bytes.Given as goal

-- the bytes so far
abbrev pub invariant-loop-byte : goal.invariant-loop-byte
invariant-loop-byte l = record {
  bytes : bytes_in l.words.items l.rest ≡ bytes_in l.initial.words.items l.fn.rest ++ take l.byte-index l.bytes;
  count : length (rest_bytes l.rest) ≡ (length (rest_bytes l.fn.rest) + l.byte-index) % 4;
}
