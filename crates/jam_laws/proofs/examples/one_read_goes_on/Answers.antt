use Rattle.std.proofs.Common.{refl}
use Rattle.jam_laws.specs.TreeRules.Computing.{rules_compute}
use Rattle.jam_laws.proofs.examples.one_read_goes_on.Goals as goal

pub returns : goal.returns
unfolding rules_compute
returns c = record { items = refl; large = refl; asked = refl; given = refl; came = refl; loaded = refl }
