use Rattle.std.proofs.Common.{◌≡◌, map}
use Rattle.ddm_tree.specs.TreeModel.Start.Nodes.{dir_sizes, held_below, new_dir}
use Rattle.ddm_tree.proofs.Gathered.{mixed}
use Rattle.ddm_tree.proofs.over.directory.Given as goal

abbrev pub invariant-loop-item : goal.invariant-loop-item
invariant-loop-item g l = l.state ≡ new_dir (dir_sizes l.fn.config g.row.WORDS) l.fn.level l.fn.bus (mixed l.item (held_below (map g.C.Agent.value l.fn.children.items)))
