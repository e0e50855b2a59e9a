use Rattle.std.proofs.Common.{◌≡◌, Some, map, ap, ◌∙◌}
use Rattle.ddm_tree.specs.DdmTypes.Keys.{key_on, stamp_zero}
use Rattle.ddm_tree.specs.TreeModel.State.Values.{dir_node, nodes, root_of}
use Rattle.ddm_tree.specs.Path.{node_at, present_at}
use Rattle.ddm_tree.specs.Reads.{node_hart}
use Rattle.ddm_tree.proofs.Reading.{now-is}
use Rattle.ddm_tree.proofs.parts.Parts.leaf_now.Goals as goal

pub returns-clause-now : goal.returns-clause-now
returns-clause-now g c =
    let root : dir_node c.self.inside.top (nodes (map g.C.Agent.value c.deref.result.now)) ≡ root_of c.args.self.now = ap (λ cs. dir_node c.self.inside.top (nodes (map g.C.Agent.value cs))) c.deref.ensures.value ∙ ap root_of c.self.view_is in
    let root_2 : dir_node c.self.inside.top (nodes (map g.C.Agent.value c.deref-2.result.now)) ≡ root_of c.args.self.now = ap (λ cs. dir_node c.self.inside.top (nodes (map g.C.Agent.value cs))) c.deref-2.ensures.value ∙ ap root_of c.self.view_is in
    let key : c.key_on.result ≡ key_on c.stamp_under-present.result c.leads_to-path.result.now c.hart_under-hart.result.now.done = c.key_on.ensures ∙ ap (key_on c.stamp_under-present.result c.leads_to-path.result.now) c.done.ensures in
    ap Some key ∙ now-is c.args.self.now c.args.leaf c.leads_to-path.result.now c.leads_to-path.ensures.leads c.stamp_under-present.result c.hart_under-hart.result.now
    (c.stamp_under-present.ensures stamp_zero ∙ ap (λ n. present_at c.leads_to-path.result.now stamp_zero n) root)
    (c.hart_under-hart.ensures ∙ ap (λ n. node_hart (node_at c.leads_to-path.result.now n)) root_2)
