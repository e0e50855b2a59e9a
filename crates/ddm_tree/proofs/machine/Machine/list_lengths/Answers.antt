use Rattle.std.proofs.Common.{◌≡◌, [], map, Some, sym, ap, ◌∙◌}
use Rattle.ddm_tree.specs.TreeModel.State.Values.{dir_node, nodes, root_of}
use Rattle.ddm_tree.specs.Reads.{node_lengths}
use Rattle.ddm_tree.specs.Path.{node_at}
use Rattle.ddm_tree.proofs.Reading.{lengths-is}
use Rattle.ddm_tree.proofs.Steps.{own-path}
use Rattle.ddm_tree.proofs.machine.Machine.list_lengths.Goals as goal

pub returns-then-is_empty : goal.returns-then-is_empty
returns-then-is_empty g c =
    let root : dir_node c.self.inside.top (nodes (map g.C.Agent.value c.self.inside.children.items)) ≡ root_of c.args.self.now.machine = ap (λ s. root_of s.machine) c.self.view_is in
    let own : c.bus_path-path.result.now ≡ [] = own-path c.bus_path-path.result.now c.is_empty.result c.is_empty.ensures c.if-is_empty.true in
    ap Some (c.lengths.ensures ∙ ap node_lengths root ∙ ap (λ p. node_lengths (node_at p (root_of c.args.self.now.machine))) (sym own)) ∙ lengths-is c.args.self.now.machine c.args.bus c.bus_path-path.result.now c.bus_path-path.ensures

pub returns-else-is_empty : goal.returns-else-is_empty
returns-else-is_empty g c =
    let root : dir_node c.self.inside.top (nodes (map g.C.Agent.value c.deref.result.now)) ≡ root_of c.args.self.now.machine = ap (λ cs. dir_node c.self.inside.top (nodes (map g.C.Agent.value cs))) c.deref.ensures.value ∙ ap (λ s. root_of s.machine) c.self.view_is in
    ap Some (c.lengths_under.ensures ∙ ap (λ n. node_lengths (node_at c.bus_path-path.result.now n)) root) ∙ lengths-is c.args.self.now.machine c.args.bus c.bus_path-path.result.now c.bus_path-path.ensures
