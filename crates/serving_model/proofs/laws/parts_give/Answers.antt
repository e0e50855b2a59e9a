use Rattle.serving_model.proofs.Give.{give}
use Rattle.serving_model.proofs.laws.parts_give.Goals as goal

pub returns : goal.returns
returns c = λ n words x within m w s calm held. give n words x within m w s calm held
