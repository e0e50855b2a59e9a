use Rattle.std.proofs.Common.{◌+◌, ◌≤◌}
use Rattle.machine_tests.proofs.one_bus.answers.Given as goal

abbrev pub invariant-loop-turn : goal.invariant-loop-turn
invariant-loop-turn l = l.machine.turns ≤ l.initial.machine.turns + l.turn-index
