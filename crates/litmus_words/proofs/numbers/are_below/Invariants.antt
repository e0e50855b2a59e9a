use Rattle.std.proofs.Common.{◌≡◌, drop}
use Rattle.std.specs.Prelude.{nat_lt}
use Rattle.std.specs.List.{list_all}
use Rattle.litmus_model.specs.Words.{digit_value}
use Rattle.litmus_words.proofs.numbers.are_below.Given as goal

abbrev pub invariant-loop-byte : goal.invariant-loop-byte
invariant-loop-byte l = list_all (λ b. nat_lt (digit_value b) l.base) l.digits ≡ list_all (λ b. nat_lt (digit_value b) l.base) (drop l.byte-index l.digits)
