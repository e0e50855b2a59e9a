use Rattle.std.proofs.Common.{refl}
use Rattle.jam_laws.specs.TreeRules.Computing.{rules_compute}
use Rattle.jam_laws.proofs.examples.small_lists_jam.Goals as goal

pub returns : goal.returns
unfolding rules_compute
returns c = record { shape = refl; rules = refl; waits = refl; jammed = refl; harts = refl; full = refl }
