use Rattle.search_model.proofs.Fit.{whole-right}
use Rattle.search_model.proofs.laws.whole_searches_are_right.Goals as goal

pub returns : goal.returns
returns c = whole-right
