use Rattle.std.proofs.Common.{◌≡◌, ◌+◌, drop}
use Rattle.std.specs.List.{position_or_len}
use Rattle.litmus_model.specs.Tokens.{is_mark}
use Rattle.litmus_text.proofs.tokens.place_of.Given as goal

abbrev pub invariant-loop-place : goal.invariant-loop-place
invariant-loop-place l = position_or_len (is_mark l.mark) l.tokens ≡ l.place + position_or_len (is_mark l.mark) (drop l.place l.tokens)
