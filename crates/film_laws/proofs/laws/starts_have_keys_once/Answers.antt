use Rattle.film_laws.proofs.Replayable.{starts_once}
use Rattle.film_laws.proofs.laws.starts_have_keys_once.Goals as goal

pub returns : goal.returns
returns c = starts_once
