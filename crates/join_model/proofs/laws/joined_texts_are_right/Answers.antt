use Rattle.join_model.proofs.Summed.{joined-texts}
use Rattle.join_model.proofs.laws.joined_texts_are_right.Goals as goal

pub returns : goal.returns
returns c = joined-texts
