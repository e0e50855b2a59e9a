use Rattle.film_model.proofs.Replay.{films_tell_all}
use Rattle.film_laws.specs.DdmTypes.ItemTable.{item_count}
use Rattle.film_laws.specs.TreeModel.Start.Machine.{start_machine}
use Rattle.film_laws.proofs.Replayable.{starts_replayable}
use Rattle.film_laws.proofs.laws.films_of_runs_tell_all.Goals as goal

pub returns : goal.returns
returns c t i turns tree bytes accepted = films_tell_all (item_count (start_machine t i).items) turns (start_machine t i) (starts_replayable t i tree bytes accepted)
