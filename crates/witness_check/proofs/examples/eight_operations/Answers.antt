use Rattle.std.proofs.Common.{refl}
use Rattle.witness_check.specs.Computing.{checks_compute}
use Rattle.witness_check.proofs.examples.eight_operations.Goals as goal

pub returns : goal.returns
unfolding checks_compute
returns c = record {
  in_order = refl;
  by_turns = refl;
}
