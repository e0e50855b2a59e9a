use Rattle.std.proofs.lemmas.Bool.{false≢true}
use Rattle.tree_rules.specs.Computing.{rules_compute}
use Rattle.tree_rules.specs.Order.Time.{keys_differ}
use Rattle.tree_rules.specs.Statements.{each_pair}
use Rattle.tree_rules.proofs.Statements.{test-from_Holds}
use Rattle.broken_runs.specs.BrokenWitnesses.{one_key_twice}
use Rattle.broken_runs.proofs.equal_keys.Goals as goal

pub returns : goal.returns
unfolding rules_compute
returns c = record { one_key_twice = λ w. false≢true (test-from_Holds (each_pair keys_differ one_key_twice.ops) w.keys) }
