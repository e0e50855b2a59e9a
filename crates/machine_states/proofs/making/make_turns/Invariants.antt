use Rattle.machine_states.proofs.LeftOut.{HaveMade}
use Rattle.machine_states.proofs.making.make_turns.Given as goal

abbrev pub invariant-loop-turn : goal.invariant-loop-turn
invariant-loop-turn l = HaveMade l.turns l.initial.machine l.machine l.turn-index
