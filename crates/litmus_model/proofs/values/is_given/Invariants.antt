use Rattle.std.proofs.Common.{◌≡◌, drop}
use Rattle.litmus_model.specs.Init.{is_given}
use Rattle.litmus_model.proofs.values.is_given.Given as goal

abbrev pub invariant-loop-given : goal.invariant-loop-given
invariant-loop-given l = is_given l.givens l.target ≡ is_given (drop l.given-index l.givens) l.target
