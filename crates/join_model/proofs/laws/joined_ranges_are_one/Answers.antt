use Rattle.join_model.proofs.RangeTexts.{joined-ranges}
use Rattle.join_model.proofs.laws.joined_ranges_are_one.Goals as goal

pub returns : goal.returns
returns c = joined-ranges
