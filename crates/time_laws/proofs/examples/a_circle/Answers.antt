use Rattle.std.proofs.Common.{refl, sym}
use Rattle.tree_model.specs.Computing.{tree_computes}
use Rattle.time_laws.specs.Forget.{put_bytes}
use Rattle.time_laws.proofs.examples.a_circle.Goals as goal

pub returns : goal.returns
unfolding tree_computes put_bytes
returns c = record {
  grants = refl;
  traffic = refl;
  puts = refl;
  alike = record { state = sym refl; puts = sym refl };
  store_before = refl;
  store_after = refl;
  store_forgotten = refl;
}
