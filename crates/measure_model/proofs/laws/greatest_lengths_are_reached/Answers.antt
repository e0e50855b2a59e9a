use Rattle.measure_model.proofs.Greatest.{reaches-most}
use Rattle.measure_model.proofs.laws.greatest_lengths_are_reached.Goals as goal

pub returns : goal.returns
returns c = reaches-most
