use Rattle.std.proofs.Common.{◌≡◌, [], map, sym, ap, ◌∙◌}
use Rattle.ddm_tree.specs.TreeModel.State.Values.{dir_node, nodes, root_of}
use Rattle.ddm_tree.specs.Path.{node_at}
use Rattle.ddm_tree.specs.Written.{node_dir_words}
use Rattle.ddm_tree.proofs.Steps.{own-path}
use Rattle.ddm_tree.proofs.Written.{dir-written}
use Rattle.ddm_tree.proofs.machine.Machine.write_part.Goals as goal

pub returns-then-is_empty-clause-ok : goal.returns-then-is_empty-clause-ok
returns-then-is_empty-clause-ok g c =
    let root : dir_node c.self.inside.top (nodes (map g.C.Agent.value c.self.inside.children.items)) ≡ root_of c.args.self.now.machine = ap (λ s. root_of s.machine) c.self.view_is in
    let own : c.bus_path-path.result.now ≡ [] = own-path c.bus_path-path.result.now c.is_empty.result c.is_empty.ensures c.if-is_empty.true in
    let here = ap node_dir_words root ∙ ap (λ p. node_dir_words (node_at p (root_of c.args.self.now.machine))) (sym own) ∙ dir-written c.args.self.now.machine c.args.bus c.bus_path-path.result.now c.bus_path-path.ensures in
    rw (← here) c.write_part.ensures.ok

pub returns-else-is_empty-clause-ok : goal.returns-else-is_empty-clause-ok
returns-else-is_empty-clause-ok g c =
    let root : dir_node c.self.inside.top (nodes (map g.C.Agent.value c.deref.result.now)) ≡ root_of c.args.self.now.machine = ap (λ cs. dir_node c.self.inside.top (nodes (map g.C.Agent.value cs))) c.deref.ensures.value ∙ ap (λ s. root_of s.machine) c.self.view_is in
    rw (← dir-written c.args.self.now.machine c.args.bus c.bus_path-path.result.now c.bus_path-path.ensures) (rw root at c.write_part_under.ensures.ok)
