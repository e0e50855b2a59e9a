use Rattle.std.proofs.Common.{◌≡◌, drop}
use Rattle.std.specs.Prelude.{fold}
use Rattle.litmus_model.specs.Test.{with_target}
use Rattle.litmus_test.proofs.observed.push_named.Given as goal

abbrev pub invariant-loop-target : goal.invariant-loop-target
invariant-loop-target l = fold with_target l.fn.targets.items l.named ≡ fold with_target l.targets.items (drop l.target-index l.named)
