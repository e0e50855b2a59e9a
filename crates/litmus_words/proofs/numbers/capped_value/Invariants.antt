use Rattle.std.proofs.Common.{◌≡◌, take}
use Rattle.std.specs.Prelude.{min}
use Rattle.litmus_model.specs.Words.{digits_value}
use Rattle.litmus_words.proofs.numbers.capped_value.Given as goal

abbrev pub invariant-loop-byte : goal.invariant-loop-byte
invariant-loop-byte l = l.number ≡ min (digits_value l.base (take l.byte-index l.digits)) 4294967296
