use Rattle.std.proofs.Common.{◌≡◌, map, ap, ◌∙◌}
use Rattle.ddm_tree.specs.TreeModel.State.Values.{dir_node, nodes, root_of}
use Rattle.ddm_tree.specs.Reads.{node_hart}
use Rattle.ddm_tree.specs.Path.{node_at}
use Rattle.ddm_tree.proofs.Reading.{hart-is}
use Rattle.ddm_tree.proofs.machine.Machine.hart.Goals as goal

pub returns : goal.returns
returns g c =
    let root : dir_node c.self.inside.top (nodes (map g.C.Agent.value c.deref.result.now)) ≡ root_of c.args.self.now.machine = ap (λ cs. dir_node c.self.inside.top (nodes (map g.C.Agent.value cs))) c.deref.ensures.value ∙ ap (λ s. root_of s.machine) c.self.view_is in
    hart-is c.args.self.now.machine c.args.hart c.leaf_path.result.now (rw (c.hart.view_is) at c.leaf_path.ensures) c.hart_under.result.now (c.hart_under.ensures ∙ ap (λ n. node_hart (node_at c.leaf_path.result.now n)) root)
