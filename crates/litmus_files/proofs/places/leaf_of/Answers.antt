use Rattle.std.proofs.Common.{arith}
use Rattle.litmus_files.proofs.Leaves.{number_within}
use Rattle.litmus_files.proofs.places.leaf_of.Goals as goal

pub overflow_cast-result : goal.overflow_cast-result
overflow_cast-result c = let small = number_within c.args.bytes.now 63 c.in-Ok.leaf c.in-Ok.ensures.number in omega (arith, small)

pub returns-in-Ok-clause-small : goal.returns-in-Ok-clause-small
returns-in-Ok-clause-small c = let small = number_within c.args.bytes.now 63 c.in-Ok.leaf c.in-Ok.ensures.number in omega (arith, small)
