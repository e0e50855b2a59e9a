use Rattle.film_model.proofs.Replay
use Rattle.film_model.proofs.laws.films_tell_all.Goals as goal

pub returns : goal.returns
returns c = Replay.films_tell_all
