use Rattle.std.proofs.Common.{refl}
use Rattle.tree_rules.specs.Computing.{rules_compute}
use Rattle.tree_rules.proofs.examples.runs_keep_rules.Goals as goal

pub returns-clause-two_writers : goal.returns-clause-two_writers
unfolding rules_compute
returns-clause-two_writers c = record { ops = refl; shaped = refl; bus = refl; order = refl; causes = refl }

pub returns-clause-stale_load : goal.returns-clause-stale_load
unfolding rules_compute
returns-clause-stale_load c = record { ops = refl; shaped = refl; bus = refl; order = refl; causes = refl }

pub returns-clause-last_copy : goal.returns-clause-last_copy
unfolding rules_compute
returns-clause-last_copy c = record { ops = refl; shaped = refl; bus = refl; order = refl; causes = refl }
