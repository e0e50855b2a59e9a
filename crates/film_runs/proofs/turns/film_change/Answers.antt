use Rattle.film_runs.specs.AnyMachine.Any.{machine_state}
use Rattle.film_runs.specs.FilmModel.Still.{still as still_of}
use Rattle.film_runs.proofs.Resting.{nothing_told}
use Rattle.film_runs.proofs.turns.film_change.Goals as goal

pub returns-then-rested-clause-text : goal.returns-then-rested-clause-text
returns-then-rested-clause-text c = nothing_told c.args.text.now.items c.args.reel.now.before (still_of (machine_state c.args.machine.now).machine) (c.requires.rested c.if-rested.true)

pub film_hart-requires-clause-formed : goal.film_hart-requires-clause-formed
film_hart-requires-clause-formed c = (c.requires.filmed.most, c.requires.filmed.form)
