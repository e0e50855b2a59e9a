use Rattle.std.proofs.Common.{◌≡◌, true, nat_lt, subst}
use Rattle.machine_tests.proofs.Parts.{leaf_part}
use Rattle.machine_tests.proofs.one_bus.has_leaf.Goals as goal

pub returns : goal.returns
returns c = λ below. leaf_part c.args.machine.now.machine c.counts.result c.counts.ensures.shape c.counts.ensures.counts c.args.leaf (subst (λ k. nat_lt k c.counts.result.leaves ≡ true) c.leaf.view_is below)
