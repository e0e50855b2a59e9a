use Rattle.std.proofs.Common.{refl}
use Rattle.worked_examples.specs.Computing.{examples_compute}
use Rattle.worked_examples.proofs.reservations.Goals as goal

pub returns : goal.returns
unfolding examples_compute
returns c = record {
  trace_kept = refl;
  trace_lost = refl;
  keys_lost = refl;
}
