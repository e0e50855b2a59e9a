use Rattle.std.proofs.Common.{◌≡◌, ◌≤◌, ◌-◌, ◌++◌, length, drop}
use Rattle.report.specs.TreeModel.Turns.Found.{states_of}
use Rattle.text_model.specs.Report.{letter_texts}
use Rattle.any_machine.specs.Any.{state_in}
use Rattle.report.proofs.machine_parts.put_many_states.Given as goal

abbrev pub invariant-states : goal.invariant-states
invariant-states g l = let all = states_of l.item (state_in l.machine).machine in record {
  within : l.next ≤ l.leaves;
  states : letter_texts (drop l.from all) ≡ l.line ++ letter_texts (drop l.next all);
  room : length l.line ≤ 500;
}

abbrev pub decreases-states : goal.decreases-states
decreases-states g l = l.leaves - l.next
