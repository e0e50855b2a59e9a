use Rattle.std.proofs.Common.{◌≡◌, ◌+◌, drop}
use Rattle.std.specs.Prelude.{not, nat_eq}
use Rattle.std.specs.List.{prefix_len}
use Rattle.litmus_steps.proofs.forms.stem_length.Given as goal

abbrev pub invariant-loop-place : goal.invariant-loop-place
invariant-loop-place l = prefix_len (λ b. not (nat_eq b 46)) l.word ≡ l.place + prefix_len (λ b. not (nat_eq b 46)) (drop l.place l.word)
