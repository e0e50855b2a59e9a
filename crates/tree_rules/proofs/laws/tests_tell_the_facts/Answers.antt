use Rattle.tree_rules.proofs.BusTests.{IsMachineOk-from_test, test-from_IsMachineOk}
use Rattle.tree_rules.proofs.OrderTests.{IsInOrder-from_test, test-from_IsInOrder}
use Rattle.tree_rules.proofs.laws.tests_tell_the_facts.Goals as goal

pub returns-clause-bus : goal.returns-clause-bus
returns-clause-bus c = IsMachineOk-from_test

pub returns-clause-bus_back : goal.returns-clause-bus_back
returns-clause-bus_back c = test-from_IsMachineOk

pub returns-clause-order : goal.returns-clause-order
returns-clause-order c = IsInOrder-from_test

pub returns-clause-order_back : goal.returns-clause-order_back
returns-clause-order_back c = test-from_IsInOrder
