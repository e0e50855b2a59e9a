use Rattle.std.proofs.Common.{refl}
use Rattle.witness_check.specs.Computing.{checks_compute}
use Rattle.witness_check.proofs.examples.lines_of_operations.Goals as goal

pub returns : goal.returns
unfolding checks_compute
returns c = record {
  plain = refl;
  put = refl;
  failed = refl;
  large = refl;
  spelling = refl;
  few = refl;
  even = refl;
  many = refl;
  short = refl;
  upper = refl;
  space = refl;
  nothing = refl;
}
