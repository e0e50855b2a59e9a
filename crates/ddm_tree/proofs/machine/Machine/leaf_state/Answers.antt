use Rattle.std.proofs.Common.{◌≡◌, map, Some, ap, sym, subst, ◌∙◌}
use Rattle.ddm_tree.specs.TreeModel.State.Values.{dir_node, nodes, root_of}
use Rattle.ddm_tree.specs.TreeModel.Turns.Tree.{leaf_of_number}
use Rattle.ddm_tree.specs.Reads.{node_state}
use Rattle.ddm_tree.specs.Path.{node_at}
use Rattle.ddm_tree.specs.Ready.{Leads}
use Rattle.ddm_tree.proofs.Reading.{state-is}
use Rattle.ddm_tree.proofs.machine.Machine.leaf_state.Goals as goal

pub state_under-requires : goal.state_under-requires
state_under-requires g c =
    let root : dir_node c.self.inside.top (nodes (map g.C.Agent.value c.deref.result.now)) ≡ root_of c.args.self.now.machine = ap (λ cs. dir_node c.self.inside.top (nodes (map g.C.Agent.value cs))) c.deref.ensures.value ∙ ap (λ s. root_of s.machine) c.self.view_is in
    record { leads = subst (λ n. Leads (leaf_of_number c.args.leaf) c.leaf_path-path.result.now n) (sym root) c.leaf_path-path.ensures }

pub returns : goal.returns
returns g c =
    let root : dir_node c.self.inside.top (nodes (map g.C.Agent.value c.deref.result.now)) ≡ root_of c.args.self.now.machine = ap (λ cs. dir_node c.self.inside.top (nodes (map g.C.Agent.value cs))) c.deref.ensures.value ∙ ap (λ s. root_of s.machine) c.self.view_is in
    ap Some (c.state_under.ensures ∙ ap (λ n. node_state c.args.item (node_at c.leaf_path-path.result.now n)) root) ∙ state-is c.args.self.now.machine c.args.leaf c.leaf_path-path.result.now c.leaf_path-path.ensures c.args.item
