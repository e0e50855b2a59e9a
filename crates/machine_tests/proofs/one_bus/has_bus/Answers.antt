use Rattle.std.proofs.Common.{◌≡◌, true, nat_lt, subst}
use Rattle.machine_tests.proofs.Parts.{bus_part}
use Rattle.machine_tests.proofs.one_bus.has_bus.Goals as goal

pub returns : goal.returns
returns c = λ below. bus_part c.args.machine.now.machine c.counts.result c.counts.ensures.shape c.counts.ensures.counts c.args.bus (subst (λ k. nat_lt k c.counts.result.buses ≡ true) c.bus.view_is below)
