use Rattle.ddm_tree.specs.Path.{node_at, present_at, put_at, node_turned}
use Rattle.ddm_tree.proofs.Steps.{set-child}
use Rattle.ddm_tree.proofs.below.turn_of_child.Goals as goal

pub returns-clause-after : goal.returns-clause-after
returns-clause-after g c =
    set-child g.C.Agent.value c.args.children.now c.args.c c.c.inside.0 (λ n. put_at c.args.rest.now (node_turned c.args.call.now.code.now c.args.call.now.items.now c.args.call.now.turn.now c.args.call.now.path.now (present_at c.args.rest.now c.args.present.now n) (node_at c.args.rest.now n)) n) c.index-children-c.result c.turn.new.self c.c.view_is c.requires.child c.turn.ensures.after
