use Rattle.std.proofs.Common.{◌≡◌, drop}
use Rattle.serving.specs.ServingModel.Serving.{completes_op}
use Rattle.serving.proofs.serving.completes.Given as goal

abbrev pub invariant-loop-answer : goal.invariant-loop-answer
invariant-loop-answer l = completes_op l.op l.answers ≡ completes_op l.op (drop l.answer-index l.answers)
