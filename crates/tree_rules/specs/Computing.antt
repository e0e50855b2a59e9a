-- One name that opens every definition of this crate, and of those that it stands on, that is shut by default.
-- Proofs alone need it.
use Rattle.tree_model.specs.Computing.{tree_computes}
use Rattle.tree_rules.specs.Bus.Item.{implies}
use Rattle.tree_rules.specs.Bus.Rules.{run_holds}
use Rattle.tree_rules.specs.Order.Places.{leaves_at, dirs_at}
use Rattle.tree_rules.specs.Order.Copies.{copies_of}
use Rattle.tree_rules.specs.Order.Claims.{claims_of}
use Rattle.tree_rules.specs.Order.Rules.{run_in_order}
use Rattle.tree_rules.specs.Examples.{run_keeps, causes_hold}

-- Where a proof says `unfolding rules_compute`, the machine and its rules compute.
unfoldable pub rules_compute : Unit {0}
unfolding tree_computes implies run_holds leaves_at dirs_at copies_of claims_of run_in_order run_keeps causes_hold
rules_compute = tt
