use Rattle.std.proofs.Common.{◌≡◌, drop}
use Rattle.std.specs.Prelude.{fold}
use Rattle.std.specs.List.{flat_map}
use Rattle.litmus_model.specs.Test.{target_names, with_name}
use Rattle.litmus_test.proofs.locations.push_targets.Given as goal

abbrev pub invariant-loop-target : goal.invariant-loop-target
invariant-loop-target l = fold with_name l.fn.names.items (flat_map target_names l.targets) ≡ fold with_name l.names.items (flat_map target_names (drop l.target-index l.targets))
