use Rattle.std.proofs.Common.{◌≡◌, map, true, Some, sym, ap, subst, ◌∙◌, arith}
use Rattle.ddm_tree.specs.DdmTypes.ItemTable.{item_count}
use Rattle.ddm_tree.specs.TreeModel.State.Rooms.{all_within}
use Rattle.ddm_tree.specs.TreeModel.State.Values.{dir_node, nodes, root_of}
use Rattle.ddm_tree.specs.TreeModel.Turns.Tree.{bus_of_number}
use Rattle.ddm_tree.specs.Reads.{node_child_hold}
use Rattle.ddm_tree.specs.Ready.{IsChild, IsItemOf}
use Rattle.ddm_tree.specs.Path.{node_at}
use Rattle.ddm_tree.proofs.Reading.{child-bound, child_items-within, hold-is, parent-there, within-at}
use Rattle.ddm_tree.proofs.machine.Machine.child_hold.Goals as goal

pub bus_path-path-requires : goal.bus_path-path-requires
bus_path-path-requires g c = (omega arith, parent-there c.args.bus c.args.child c.args.self.now.machine c.requires.child)

pub hold_under-requires-clause-child : goal.hold_under-requires-clause-child
hold_under-requires-clause-child g c =
    let root : dir_node c.self.inside.top (nodes (map g.C.Agent.value c.deref.result.now)) ≡ root_of c.args.self.now.machine = ap (λ cs. dir_node c.self.inside.top (nodes (map g.C.Agent.value cs))) c.deref.ensures.value ∙ ap (λ s. root_of s.machine) c.self.view_is in
    subst (λ n. IsChild c.args.child (node_at c.bus_path-path.result.now n)) (sym root) (child-bound c.args.self.now.machine c.args.bus c.bus_path-path.result.now c.bus_path-path.ensures c.args.child c.requires.child)

pub hold_under-requires-clause-in_range : goal.hold_under-requires-clause-in_range
hold_under-requires-clause-in_range g c =
    let root : dir_node c.self.inside.top (nodes (map g.C.Agent.value c.deref.result.now)) ≡ root_of c.args.self.now.machine = ap (λ cs. dir_node c.self.inside.top (nodes (map g.C.Agent.value cs))) c.deref.ensures.value ∙ ap (λ s. root_of s.machine) c.self.view_is in
    let rooms : all_within (item_count c.args.self.now.machine.items) (root_of c.args.self.now.machine) ≡ true = subst (λ s. all_within (item_count s.machine.items) (root_of s.machine) ≡ true) c.self.view_is c.self.invariant.0.rooms in
    let bound = child-bound c.args.self.now.machine c.args.bus c.bus_path-path.result.now c.bus_path-path.ensures c.args.child c.requires.child in
    let there = within-at (item_count c.args.self.now.machine.items) (bus_of_number c.args.bus) c.bus_path-path.result.now (root_of c.args.self.now.machine) c.bus_path-path.ensures rooms in
    let items = child_items-within (item_count c.args.self.now.machine.items) c.args.child c.args.item (node_at c.bus_path-path.result.now (root_of c.args.self.now.machine)) there bound c.requires.item in
    subst (λ n. IsItemOf c.args.child c.args.item (node_at c.bus_path-path.result.now n)) (sym root) items

pub returns : goal.returns
returns g c =
    let root : dir_node c.self.inside.top (nodes (map g.C.Agent.value c.deref.result.now)) ≡ root_of c.args.self.now.machine = ap (λ cs. dir_node c.self.inside.top (nodes (map g.C.Agent.value cs))) c.deref.ensures.value ∙ ap (λ s. root_of s.machine) c.self.view_is in
    ap Some (c.hold_under.ensures ∙ ap (λ n. node_child_hold c.args.child c.args.item (node_at c.bus_path-path.result.now n)) root) ∙ hold-is c.args.self.now.machine c.args.bus c.bus_path-path.result.now c.bus_path-path.ensures c.args.child c.args.item
