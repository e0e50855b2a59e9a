use Rattle.std.proofs.Common.{◌≡◌, ◌+◌, ◌++◌, length, drop, map, All}
use Rattle.std.specs.Prelude.{sum}
use Rattle.std.specs.Vec.Iter.{into_iter_items, into_iter_len}
use Rattle.ddm_tree.specs.TreeModel.State.Values.{dir_node, nodes}
use Rattle.ddm_tree.specs.TreeModel.Start.Nodes.{cut_in, dir_sizes, dirs_over}
use Rattle.ddm_tree.specs.Holders.{IsHolder}
use Rattle.ddm_tree.proofs.over.directories.Given as goal

abbrev pub invariant-loop-i : goal.invariant-loop-i
invariant-loop-i g l =
    (map (λ d. dir_node d.state (nodes (map g.C.Agent.value d.children.items))) l.dirs.items ++ dirs_over (dir_sizes l.fn.config g.row.WORDS) l.fn.level (l.fn.first + l.i) (cut_in (drop l.i l.fn.widths) (map g.C.Agent.value (into_iter_items l.rest)))
    ≡ dirs_over (dir_sizes l.fn.config g.row.WORDS) l.fn.level l.fn.first (cut_in l.fn.widths (map g.C.Agent.value l.fn.children.items)))
    × (into_iter_len l.rest ≡ length (into_iter_items l.rest))
    × (sum (drop l.i l.fn.widths) ≡ length (into_iter_items l.rest))
    × All (IsHolder l.fn.items) (map g.C.Agent.value (into_iter_items l.rest))
