use Rattle.std.proofs.Common.{◌≡◌, ◌+◌, drop}
use Rattle.std.specs.Prelude.{bytes_eq}
use Rattle.std.specs.List.{position_or_len}
use Rattle.litmus_words.specs.Tables.{texts_of}
use Rattle.litmus_words.proofs.registers.place_or_count.Given as goal

abbrev pub invariant-loop-place : goal.invariant-loop-place
invariant-loop-place l = position_or_len (bytes_eq l.word) (texts_of l.names) ≡ l.place + position_or_len (bytes_eq l.word) (texts_of (drop l.place l.names))
