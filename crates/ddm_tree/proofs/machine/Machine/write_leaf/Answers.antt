use Rattle.std.proofs.Common.{◌≡◌, map, ap, ◌∙◌}
use Rattle.ddm_tree.specs.TreeModel.State.Values.{dir_node, nodes, root_of}
use Rattle.ddm_tree.specs.StateWords.Parts.{leaf_words}
use Rattle.ddm_tree.proofs.Written.{leaf-written}
use Rattle.ddm_tree.proofs.machine.Machine.write_leaf.Goals as goal

pub returns-clause-ok : goal.returns-clause-ok
returns-clause-ok g c =
    let root : dir_node c.self.inside.top (nodes (map g.C.Agent.value c.deref.result.now)) ≡ root_of c.args.self.now.machine = ap (λ cs. dir_node c.self.inside.top (nodes (map g.C.Agent.value cs))) c.deref.ensures.value ∙ ap (λ s. root_of s.machine) c.self.view_is in
    rw (← leaf-written leaf_words c.args.self.now.machine c.args.leaf c.leaf_path-path.result.now c.leaf_path-path.ensures) (rw root at c.write_leaf_under.ensures.ok)
