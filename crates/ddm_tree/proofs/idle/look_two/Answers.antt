use Rattle.std.proofs.Common.{map, vec_items}
use Rattle.ddm_tree.specs.TreeModel.State.Values.{dir_node, nodes}
use Rattle.ddm_tree.proofs.Resting.{no-two, seen-fewer, seen-then}
use Rattle.ddm_tree.proofs.idle.look_two.Goals as goal

pub returns-clause-seen : goal.returns-clause-seen
returns-clause-seen g c = λ d.
    let n = dir_node d (nodes (map g.C.Agent.value c.args.children.now)) in
    let p = c.args.path.now in
    let o = c.args.answered.now in
    let paths = map vec_items c.args.leaf_paths.now in
    let both = seen-then paths n o _ _ c.args.idle.now c.look_child.new.idle c.look_child-2.new.idle (c.look_child.ensures.seen d) (c.look_child-2.ensures.seen d) in
    seen-fewer paths n o _ _ c.args.idle.now c.look_child-2.new.idle (λ k none. no-two c.args.first c.args.second p n k none) both
