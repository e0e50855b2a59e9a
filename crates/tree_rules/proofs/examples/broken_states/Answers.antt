use Rattle.std.proofs.Common.{refl}
use Rattle.tree_rules.specs.Computing.{rules_compute}
use Rattle.tree_rules.proofs.examples.broken_states.Goals as goal

pub returns-clause-asked_twice : goal.returns-clause-asked_twice
unfolding rules_compute
returns-clause-asked_twice c = record { alone = refl; refused = refl; without = refl; kept = refl }

pub returns-clause-exclusive_children : goal.returns-clause-exclusive_children
unfolding rules_compute
returns-clause-exclusive_children c = record { two = refl; one = refl; uncovered = refl; unnoted = refl }

pub returns-clause-faces : goal.returns-clause-faces
unfolding rules_compute
returns-clause-faces c = record { reads_and_holds = refl; two_exclusives = refl; two_requests = refl; data_asked = refl }

pub returns-clause-own : goal.returns-clause-own
unfolding rules_compute
returns-clause-own c = record { no_way = refl; waits_twice = refl; top_stamp = refl }

pub returns-clause-shapes : goal.returns-clause-shapes
unfolding rules_compute
returns-clause-shapes c = record { kept = refl; five_levels = refl; no_child = refl; sixteen_children = refl; seventeen_children = refl; traffic_missing = refl; odd_address = refl }

pub returns-clause-order : goal.returns-clause-order
unfolding rules_compute
returns-clause-order c = record { turned_time = refl; turned_core = refl; turned_written = refl; halted_core = refl; halted_next = refl }
