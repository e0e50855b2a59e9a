use Rattle.serving_model.proofs.StartShows.{start-shows}
use Rattle.serving_model.proofs.laws.starts_are_shown.Goals as goal

pub returns : goal.returns
returns c = start-shows
