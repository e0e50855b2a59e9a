use Rattle.std.proofs.Common.{refl}
use Rattle.tree_rules.specs.Computing.{rules_compute}
use Rattle.tree_rules.proofs.examples.lagging_buses.Goals as goal

pub returns-clause-late_exclusive : goal.returns-clause-late_exclusive
unfolding rules_compute
returns-clause-late_exclusive c = record { bus = refl; time = refl; core = refl; written = refl; copies = refl; next = refl }

pub returns-clause-early_word : goal.returns-clause-early_word
unfolding rules_compute
returns-clause-early_word c = record { bus = refl; time = refl; core = refl; written = refl; copies = refl; next = refl }
