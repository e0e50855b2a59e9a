use Rattle.std.proofs.Common.{◌≡◌, drop}
use Rattle.litmus_model.specs.Satisfies.{observed_word}
use Rattle.litmus_log.proofs.condition.observed_word.Given as goal

abbrev pub invariant-loop-place : goal.invariant-loop-place
invariant-loop-place l = observed_word l.targets l.words l.target ≡ observed_word (drop l.place l.targets) (drop l.place l.words) l.target
