use Rattle.std.proofs.Common.{ap, ◌∙◌}
use Rattle.std.specs.Prelude.{is_some}
use Rattle.film_runs.specs.AnyMachine.Any.{state_in}
use Rattle.film_runs.proofs.Resting.{halt_read}
use Rattle.film_runs.proofs.turns.halted_among.Goals as goal

pub returns : goal.returns
returns g c = c.is_some.ensures ∙ ap is_some c.halted.ensures ∙ halt_read (state_in c.args.machine.now).machine c.args.hart c.hart.result.now c.requires.shape c.hart.ensures
