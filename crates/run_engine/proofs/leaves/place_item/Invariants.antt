use Rattle.std.proofs.Common.{◌≡◌}
use Rattle.run_engine.specs.Placement.{ArePassed}
use Rattle.run_engine.proofs.leaves.place_item.Given as goal

abbrev pub invariant-loop-k : goal.invariant-loop-k
invariant-loop-k g l = (l.leaves ≡ l.fn.leaves) × ArePassed l.fn.item l.k l.fn.leaves
