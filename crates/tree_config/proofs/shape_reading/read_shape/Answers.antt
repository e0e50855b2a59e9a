use Rattle.std.proofs.Common.{sym, inr}
use Rattle.tree_config.proofs.ShapeReading.{levels_in-bad}
use Rattle.tree_config.proofs.shape_reading.read_shape.Goals as goal

pub returns-in-Some-clause-refused : goal.returns-in-Some-clause-refused
returns-in-Some-clause-refused c = inr (levels_in-bad c.args.text.now c.in-Some.place (sym c.in-Some.ensures.place))
