use Rattle.std.proofs.Common.{◌≡◌, map, Some, ap, ◌∙◌}
use Rattle.ddm_tree.specs.TreeModel.State.Values.{dir_node, nodes, root_of}
use Rattle.ddm_tree.specs.Reads.{node_leaf_lengths}
use Rattle.ddm_tree.specs.Path.{node_at}
use Rattle.ddm_tree.proofs.Reading.{leaf_lengths-is}
use Rattle.ddm_tree.proofs.machine.Machine.leaf_lengths.Goals as goal

pub returns : goal.returns
returns g c =
    let root : dir_node c.self.inside.top (nodes (map g.C.Agent.value c.deref.result.now)) ≡ root_of c.args.self.now.machine = ap (λ cs. dir_node c.self.inside.top (nodes (map g.C.Agent.value cs))) c.deref.ensures.value ∙ ap (λ s. root_of s.machine) c.self.view_is in
    ap Some (c.leaf_lengths_under.ensures ∙ ap (λ n. node_leaf_lengths (node_at c.leaf_path-path.result.now n)) root) ∙ leaf_lengths-is c.args.self.now.machine c.args.leaf c.leaf_path-path.result.now c.leaf_path-path.ensures
