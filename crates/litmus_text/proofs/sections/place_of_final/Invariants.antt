use Rattle.std.proofs.Common.{◌≡◌, ◌+◌, drop}
use Rattle.std.specs.List.{position_or_len}
use Rattle.litmus_model.specs.Sections.{is_final}
use Rattle.litmus_text.proofs.sections.place_of_final.Given as goal

abbrev pub invariant-loop-place : goal.invariant-loop-place
invariant-loop-place l = position_or_len is_final l.tokens ≡ l.place + position_or_len is_final (drop l.place l.tokens)
