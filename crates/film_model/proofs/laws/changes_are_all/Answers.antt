use Rattle.film_model.proofs.Replay
use Rattle.film_model.proofs.laws.changes_are_all.Goals as goal

pub returns : goal.returns
returns c = Replay.changes_are_all
