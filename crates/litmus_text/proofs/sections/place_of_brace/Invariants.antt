use Rattle.std.proofs.Common.{◌≡◌, ◌+◌, drop}
use Rattle.std.specs.Prelude.{nat_eq}
use Rattle.std.specs.List.{position_or_len}
use Rattle.litmus_text.proofs.sections.place_of_brace.Given as goal

abbrev pub invariant-loop-place : goal.invariant-loop-place
invariant-loop-place l = position_or_len (λ b. nat_eq b 123) l.text ≡ l.place + position_or_len (λ b. nat_eq b 123) (drop l.place l.text)
