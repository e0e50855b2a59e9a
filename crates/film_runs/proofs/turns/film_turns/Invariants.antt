use Rattle.std.proofs.Common.{◌≡◌, ◌+◌, ◌++◌, take}
use Rattle.film_runs.specs.AnyMachine.Any.{machine_state}
use Rattle.film_runs.specs.AnyRuns.Run.{AreBelow, counts_in}
use Rattle.film_runs.specs.Film.Filmed.{IsFilmed}
use Rattle.film_runs.specs.TreeModel.Turns.Machine.{run_of}
use Rattle.film_runs.specs.FilmModel.Film.{turns_film}
use Rattle.film_runs.specs.FilmModel.Still.{still}
use Rattle.film_runs.proofs.turns.film_turns.Given as goal

abbrev pub invariant-loop-turn : goal.invariant-loop-turn
invariant-loop-turn l =
    (l.text.items ≡ l.initial.text.items ++ turns_film 0 (take l.turn-index l.turns) (machine_state l.initial.machine).machine)
    × ((machine_state l.machine).machine ≡ (run_of (take l.turn-index l.turns) (machine_state l.initial.machine).machine).machine)
    × ((machine_state l.machine).turns ≡ (machine_state l.initial.machine).turns + l.turn-index)
    × (l.counts ≡ counts_in (take l.turn-index l.turns) (machine_state l.initial.machine))
    × AreBelow (l.turn-index + 1) l.counts
    × (l.reel.before ≡ still (machine_state l.machine).machine)
    × IsFilmed l.levels (machine_state l.machine).machine
    × (l.number ≡ l.turn-index)
