use Rattle.std.proofs.Common.{◌≡◌, map}
use Rattle.std.specs.List.{range_with_len}
use Rattle.run_engine.specs.TreeModel.Start.Nodes.{leaf_sizes, new_leaf}
use Rattle.run_engine.proofs.leaves.new_leaves.Given as goal

abbrev pub invariant-loop-leaf : goal.invariant-loop-leaf
invariant-loop-leaf g l = l.leaves.items ≡ map (new_leaf (leaf_sizes l.fn.config g.row.WAYS g.row.WORDS) l.fn.start l.fn.items) (range_with_len 0 l.leaf)
