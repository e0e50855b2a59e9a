use Rattle.std.proofs.Common.{◌≡◌, ◌<◌, map, true, Some, sym, ap, subst, ◌∙◌, rules}
use Rattle.ddm_tree.specs.DdmTypes.ItemTable.{item_count}
use Rattle.ddm_tree.specs.TreeModel.State.Rooms.{all_within}
use Rattle.ddm_tree.specs.TreeModel.State.Values.{dir_node, nodes, root_of}
use Rattle.ddm_tree.specs.TreeModel.Turns.Tree.{leaf_of_number}
use Rattle.ddm_tree.specs.ItemStates.Parts.{node_items}
use Rattle.ddm_tree.specs.Reads.{node_entry}
use Rattle.ddm_tree.specs.Path.{node_at}
use Rattle.ddm_tree.specs.Ready.{Leads}
use Rattle.ddm_tree.proofs.Reading.{entry-is, items-within, within-at}
use Rattle.ddm_tree.proofs.machine.Machine.leaf_entry.Goals as goal

pub entry_under-requires : goal.entry_under-requires
entry_under-requires g c =
    let root : dir_node c.self.inside.top (nodes (map g.C.Agent.value c.deref.result.now)) ≡ root_of c.args.self.now.machine = ap (λ cs. dir_node c.self.inside.top (nodes (map g.C.Agent.value cs))) c.deref.ensures.value ∙ ap (λ s. root_of s.machine) c.self.view_is in
    let rooms : all_within (item_count c.args.self.now.machine.items) (root_of c.args.self.now.machine) ≡ true = subst (λ s. all_within (item_count s.machine.items) (root_of s.machine) ≡ true) c.self.view_is c.self.invariant.0.rooms in
    let there = within-at (item_count c.args.self.now.machine.items) (leaf_of_number c.args.leaf) c.leaf_path-path.result.now (root_of c.args.self.now.machine) c.leaf_path-path.ensures rooms in
    let items = items-within (item_count c.args.self.now.machine.items) (node_at c.leaf_path-path.result.now (root_of c.args.self.now.machine)) there in
    (search rules, (subst (λ n. Leads (leaf_of_number c.args.leaf) c.leaf_path-path.result.now n) (sym root) c.leaf_path-path.ensures, subst (λ n. c.args.item < node_items (node_at c.leaf_path-path.result.now n)) (sym root) (subst (λ k. c.args.item < k) (sym items) c.requires.item)))

pub returns : goal.returns
returns g c =
    let root : dir_node c.self.inside.top (nodes (map g.C.Agent.value c.deref.result.now)) ≡ root_of c.args.self.now.machine = ap (λ cs. dir_node c.self.inside.top (nodes (map g.C.Agent.value cs))) c.deref.ensures.value ∙ ap (λ s. root_of s.machine) c.self.view_is in
    ap Some (c.entry_under.ensures ∙ ap (λ n. node_entry c.args.item (node_at c.leaf_path-path.result.now n)) root) ∙ entry-is c.args.self.now.machine c.args.leaf c.leaf_path-path.result.now c.leaf_path-path.ensures c.args.item
