use Rattle.std.proofs.Common.{refl}
use Rattle.checkpoint.specs.Computing.{checkpoints_compute}
use Rattle.checkpoint.proofs.examples.small_files.Goals as goal

pub returns : goal.returns
unfolding checkpoints_compute
returns c = record {
  read_back = refl;
  accepted = refl;
  size = refl;
  cut = refl;
  longer = refl;
  short = refl;
  version = refl;
  other = refl;
  counts = refl;
  slot = refl;
  waiting = refl;
}
