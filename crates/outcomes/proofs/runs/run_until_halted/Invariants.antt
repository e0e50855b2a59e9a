use Rattle.std.proofs.Common.{◌≡◌, length}
use Rattle.outcomes.proofs.Blocks.{AfterBlocks}
use Rattle.outcomes.proofs.runs.run_until_halted.Given as goal

abbrev pub invariant-running : goal.invariant-running
invariant-running l = record {
  blocks : AfterBlocks l.fn.seeds.left l.seeds.left l.initial.machine l.machine;
  shape : l.seeds.shape ≡ l.fn.seeds.shape;
}

abbrev pub decreases-running : goal.decreases-running
decreases-running l = length l.seeds.left
