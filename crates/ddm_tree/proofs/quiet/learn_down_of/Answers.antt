use Rattle.std.proofs.Common.{◌≡◌, Some, sym, ap, ◌∙◌}
use Rattle.ddm_tree.specs.TreeModel.declared.BusTurn.{BusTurn}
use Rattle.ddm_tree.specs.TreeModel.State.Values.{dir_node, no_nodes}
use Rattle.ddm_tree.proofs.QuietTable.{harts-put, node-past, node-put}
use Rattle.ddm_tree.proofs.quiet.learn_down_of.Goals as goal

pub returns-then-bus-known-clause-learned : goal.returns-then-bus-known-clause-learned
returns-then-bus-known-clause-learned g c = λ ns.
    node-put (λ t. t ≡ BusTurn.Down) c.bus-2.inside.0 (dir_node (g.P.Parent.state c.args.parent.now) ns) (ap Some (sym c.bus.ensures.value ∙ sym c.bus-2.view_is)) c.args.known.now c.put_down.new.quiet c.if-bus-known.true (c.put_down.ensures ns)

pub returns-then-bus-known-clause-harts : goal.returns-then-bus-known-clause-harts
returns-then-bus-known-clause-harts g c =
    harts-put (λ t. t ≡ BusTurn.Down) c.bus-2.inside.0 (dir_node (g.P.Parent.state c.args.parent.now) no_nodes) (ap Some (sym c.bus.ensures.value ∙ sym c.bus-2.view_is)) c.args.known.now c.put_down.new.quiet c.if-bus-known.true (c.put_down.ensures no_nodes)

pub returns-else-bus-known-clause-learned : goal.returns-else-bus-known-clause-learned
returns-else-bus-known-clause-learned g c = λ ns.
    node-past (λ t. t ≡ BusTurn.Down) c.bus-2.inside.0 (dir_node (g.P.Parent.state c.args.parent.now) ns) (ap Some (sym c.bus.ensures.value ∙ sym c.bus-2.view_is)) c.args.known.now c.if-bus-known.false
