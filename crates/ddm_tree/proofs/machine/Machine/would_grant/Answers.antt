use Rattle.std.proofs.Common.{◌≡◌, map, sym, ap, subst, ◌∙◌, arith}
use Rattle.ddm_tree.specs.DdmTypes.ItemTable.{item_count}
use Rattle.ddm_tree.specs.TreeModel.State.Values.{dir_node, nodes, root_of}
use Rattle.ddm_tree.specs.TreeModel.State.Shape.{widths_bounded}
use Rattle.ddm_tree.specs.TreeModel.Turns.Machine.{bus_turn_of}
use Rattle.split_bus.specs.Outcomes.{goes_on_with}
use Rattle.ddm_tree.specs.Path.{node_at}
use Rattle.ddm_tree.specs.Reads.{node_grants}
use Rattle.ddm_tree.specs.Ready.{IsAskable, HasChild}
use Rattle.ddm_tree.proofs.Asking.{asked-part, asked-child, asked-turn, asked-kind}
use Rattle.ddm_tree.proofs.machine.Machine.would_grant.Goals as goal

pub bus_path-path-requires : goal.bus_path-path-requires
bus_path-path-requires g c = (omega arith, asked-part c.args.turn c.args.self.now.machine c.requires.named c.bus_of-bus.result c.bus_of-bus.ensures)

pub grants_under-requires-clause-askable : goal.grants_under-requires-clause-askable
grants_under-requires-clause-askable g c =
    let inv = c.self.invariant in
    let askable : IsAskable g.row.WORDS (dir_node c.self.inside.top (nodes (map g.C.Agent.value c.self.inside.children.items))) = record { fits = inv.2; items = item_count c.self.inside.items; rooms = inv.0.rooms; buses = inv.0.shaped.each widths_bounded } in
    subst (λ cs. IsAskable g.row.WORDS (dir_node c.self.inside.top (nodes (map g.C.Agent.value cs)))) (sym c.deref.ensures.value) askable

pub grants_under-requires-clause-kind : goal.grants_under-requires-clause-kind
grants_under-requires-clause-kind g c = ap goes_on_with c.on_bus.ensures ∙ asked-kind c.args.turn c.requires.kind

pub grants_under-requires-clause-child : goal.grants_under-requires-clause-child
grants_under-requires-clause-child g c =
    let root : dir_node c.self.inside.top (nodes (map g.C.Agent.value c.deref.result.now)) ≡ root_of c.args.self.now.machine = ap (λ cs. dir_node c.self.inside.top (nodes (map g.C.Agent.value cs))) c.deref.ensures.value ∙ ap (λ s. root_of s.machine) c.self.view_is in
    let child = asked-child c.args.turn c.args.self.now.machine c.requires.named c.bus_of-bus.result c.bus_of-bus.ensures c.bus_path-path.result.now c.bus_path-path.ensures in
    subst (λ n. HasChild c.on_bus.result (node_at c.bus_path-path.result.now n)) (sym root) (subst (λ t. HasChild t (node_at c.bus_path-path.result.now (root_of c.args.self.now.machine))) (sym c.on_bus.ensures) child)

pub returns : goal.returns
returns g c =
    let root : dir_node c.self.inside.top (nodes (map g.C.Agent.value c.deref.result.now)) ≡ root_of c.args.self.now.machine = ap (λ cs. dir_node c.self.inside.top (nodes (map g.C.Agent.value cs))) c.deref.ensures.value ∙ ap (λ s. root_of s.machine) c.self.view_is in
    asked-turn c.args.turn c.args.self.now.machine c.requires.named c.bus_of-bus.result c.bus_of-bus.ensures c.bus_path-path.result.now c.bus_path-path.ensures c.grants_under.result (λ above. c.grants_under.ensures above ∙ ap (λ t. node_grants above t (node_at c.bus_path-path.result.now (dir_node c.self.inside.top (nodes (map g.C.Agent.value c.deref.result.now))))) c.on_bus.ensures ∙ ap (λ n. node_grants above (bus_turn_of c.args.turn) (node_at c.bus_path-path.result.now n)) root)
