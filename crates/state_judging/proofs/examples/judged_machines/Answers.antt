use Rattle.std.proofs.Common.{refl}
use Rattle.state_judging.specs.Computing.{judging_computes}
use Rattle.state_judging.proofs.examples.judged_machines.Goals as goal

pub returns : goal.returns
unfolding judging_computes
returns c = record {
  two_writers = refl;
  stale_load = refl;
  last_copy = refl;
  emptied = refl;
  place_kept = refl;
  held_before_data = refl;
  taken_early = refl;
  same_key = refl;
  nothing_kept = refl;
  kept_for_nothing = refl;
}
