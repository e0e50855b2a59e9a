use Rattle.std.proofs.Common.{refl}
use Rattle.jam_laws.specs.TreeRules.Computing.{rules_compute}
use Rattle.jam_laws.proofs.examples.four_leaves.Goals as goal

pub returns : goal.returns
unfolding rules_compute
returns c = record { items = refl; too_small = refl; just_less = refl; large = refl; none_waits = refl }
