use Rattle.std.proofs.Common.{◌≡◌, ◌+◌, ◌≤◌, ◌++◌, take, length, vec_capacity, if◌then◌else◌}
use Rattle.any_runs.specs.Run.{AreBelow, answers_in, counts_in, ran}
use Rattle.any_runs.proofs.running.run_turns.Given as goal

abbrev pub invariant-loop-turn : goal.invariant-loop-turn
invariant-loop-turn g l =
    (l.machine ≡ ran (take l.turn-index l.turns) l.initial.machine)
    × (l.counts ≡ counts_in (take l.turn-index l.turns) l.initial.machine)
    × AreBelow (l.turn-index + 1) l.counts
    × (length l.turns ≤ l.machine.spare + l.turn-index)
    × (l.answers.items ≡ (if l.keep then l.initial.answers.items ++ answers_in (take l.turn-index l.turns) l.initial.machine else l.initial.answers.items))
    × (vec_capacity l.initial.answers ≤ vec_capacity l.answers)
