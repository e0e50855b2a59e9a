use Rattle.join_model.proofs.Ranges.{ranges-follow}
use Rattle.join_model.proofs.laws.ranges_that_follow_are_one.Goals as goal

pub returns : goal.returns
returns c = ranges-follow
