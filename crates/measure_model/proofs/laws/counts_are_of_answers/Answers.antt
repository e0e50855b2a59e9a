use Rattle.measure_model.proofs.Counted.{counts-answers}
use Rattle.measure_model.proofs.laws.counts_are_of_answers.Goals as goal

pub returns : goal.returns
returns c = counts-answers
