use Rattle.film_model.proofs.FilmMarkup
use Rattle.film_model.proofs.laws.films_have_no_markup.Goals as goal

pub returns : goal.returns
returns c tree turns m = (FilmMarkup.film tree turns m).is
