use Rattle.std.proofs.Common.{◌≡◌, ◌+◌, ◌≤◌, length, take}
use Rattle.any_runs.specs.Run.{ran}
use Rattle.any_runs.proofs.spared.make_turns.Given as goal

abbrev pub invariant-loop-turn : goal.invariant-loop-turn
invariant-loop-turn g l = (l.machine ≡ ran (take l.turn-index l.turns) l.initial.machine) × (length l.turns ≤ l.machine.spare + l.turn-index)
