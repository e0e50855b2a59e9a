use Rattle.std.proofs.Common.{◌≡◌, map, Some, ap, ◌∙◌}
use Rattle.ddm_tree.specs.TreeModel.State.Values.{dir_node, nodes, root_of}
use Rattle.ddm_tree.specs.DdmTypes.Keys.{key_on, stamp_zero}
use Rattle.ddm_tree.specs.Reads.{node_hart}
use Rattle.ddm_tree.specs.Path.{node_at}
use Rattle.ddm_tree.specs.Path.{present_at}
use Rattle.ddm_tree.proofs.Reading.{now-is}
use Rattle.ddm_tree.proofs.machine.Machine.now.Goals as goal

pub returns : goal.returns
returns g c =
    let root : dir_node c.self.inside.top (nodes (map g.C.Agent.value c.deref.result.now)) ≡ root_of c.args.self.now.machine = ap (λ cs. dir_node c.self.inside.top (nodes (map g.C.Agent.value cs))) c.deref.ensures.value ∙ ap (λ s. root_of s.machine) c.self.view_is in
    let root_2 : dir_node c.self.inside.top (nodes (map g.C.Agent.value c.deref-2.result.now)) ≡ root_of c.args.self.now.machine = ap (λ cs. dir_node c.self.inside.top (nodes (map g.C.Agent.value cs))) c.deref-2.ensures.value ∙ ap (λ s. root_of s.machine) c.self.view_is in
    let key : c.key_on.result ≡ key_on c.stamp_under-present.result c.leaf_path-path.result.now c.hart_under-hart.result.now.done = c.key_on.ensures ∙ ap (key_on c.stamp_under-present.result c.leaf_path-path.result.now) c.done.ensures in
    ap Some key ∙ now-is c.args.self.now.machine c.args.leaf c.leaf_path-path.result.now c.leaf_path-path.ensures c.stamp_under-present.result c.hart_under-hart.result.now
    (c.stamp_under-present.ensures stamp_zero ∙ ap (λ n. present_at c.leaf_path-path.result.now stamp_zero n) root)
    (c.hart_under-hart.ensures ∙ ap (λ n. node_hart (node_at c.leaf_path-path.result.now n)) root_2)
