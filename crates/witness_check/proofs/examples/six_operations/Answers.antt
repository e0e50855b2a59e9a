use Rattle.std.proofs.Common.{refl}
use Rattle.witness_check.specs.Computing.{checks_compute}
use Rattle.witness_check.proofs.examples.six_operations.Goals as goal

pub returns : goal.returns
unfolding checks_compute
returns c = record {
  accepted = refl;
  exchanged = refl;
  cut = refl;
  nothing = refl;
  another_word = refl;
  other_keys = refl;
  no_hart = refl;
  behind = refl;
  overlap = refl;
}
