use Rattle.std.proofs.Common.{refl}
use Rattle.join_model.specs.Computing.{joins_compute}
use Rattle.join_model.proofs.examples.small_joins.Goals as goal

pub returns : goal.returns
unfolding joins_compute
returns c = record {
  two = refl;
  alone = refl;
  other = refl;
  many = refl;
  second = refl;
}
