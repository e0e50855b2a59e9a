use Rattle.std.proofs.Common.{◌≡◌, Some, map, sym, ap, ◌∙◌}
use Rattle.ddm_tree.specs.TreeModel.State.Values.{dir_node, nodes}
use Rattle.ddm_tree.specs.Quiet.{OfChild, bus_in}
use Rattle.ddm_tree.proofs.QuietTable.{harts-put, node-past, node-put}
use Rattle.ddm_tree.proofs.quiet.learn_child.Goals as goal

pub returns-then-bus-known-clause-learned : goal.returns-then-bus-known-clause-learned
returns-then-bus-known-clause-learned g c =
    let d = g.P.Parent.state c.args.parent.now in
    let n = dir_node d (nodes (map g.C.Agent.value c.args.children.now)) in
    let number : bus_in n ≡ Some c.bus-2.inside.0 = ap Some (sym c.bus.ensures.value ∙ sym c.bus-2.view_is) in
    node-put (OfChild c.args.place) c.bus-2.inside.0 n number c.args.known.now c.put_numbered.new.quiet c.if-bus-known.true (c.put_numbered.ensures d)

pub returns-then-bus-known-clause-harts : goal.returns-then-bus-known-clause-harts
returns-then-bus-known-clause-harts g c =
    let d = g.P.Parent.state c.args.parent.now in
    let n = dir_node d (nodes (map g.C.Agent.value c.args.children.now)) in
    let number : bus_in n ≡ Some c.bus-2.inside.0 = ap Some (sym c.bus.ensures.value ∙ sym c.bus-2.view_is) in
    harts-put (OfChild c.args.place) c.bus-2.inside.0 n number c.args.known.now c.put_numbered.new.quiet c.if-bus-known.true (c.put_numbered.ensures d)

pub returns-else-bus-known-clause-learned : goal.returns-else-bus-known-clause-learned
returns-else-bus-known-clause-learned g c =
    let n = dir_node (g.P.Parent.state c.args.parent.now) (nodes (map g.C.Agent.value c.args.children.now)) in
    let number : bus_in n ≡ Some c.bus-2.inside.0 = ap Some (sym c.bus.ensures.value ∙ sym c.bus-2.view_is) in
    node-past (OfChild c.args.place) c.bus-2.inside.0 n number c.args.known.now c.if-bus-known.false
