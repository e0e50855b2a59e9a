use Rattle.std.proofs.Common.{refl}
use Rattle.jam_laws.specs.TreeRules.Computing.{rules_compute}
use Rattle.jam_laws.proofs.examples.tried_in_order.Goals as goal

pub returns : goal.returns
unfolding rules_compute
returns c = record { lower_bus = refl; down = refl; reply = refl; lower_child = refl }
