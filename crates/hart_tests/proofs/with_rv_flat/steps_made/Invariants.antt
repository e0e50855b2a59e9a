use Rattle.std.proofs.Common.{◌<◌, length}
use Rattle.rv_flat.specs.FlatState.{HasItems}
use Rattle.hart_tests.proofs.with_rv_flat.steps_made.Given as goal

abbrev pub invariant-loop-number : goal.invariant-loop-number
invariant-loop-number l = HasItems l.machine l.items × (0 < length l.machine.machine.harts)
