use Rattle.std.proofs.Common.{map}
use Rattle.ddm_tree.specs.TreeModel.State.Values.{dir_node, nodes}
use Rattle.ddm_tree.proofs.QuietIndex.{are-then}
use Rattle.ddm_tree.proofs.quiet.put_two.Goals as goal

pub returns : goal.returns
returns g c =
    let d = g.P.Parent.state c.args.parent.now in
    let kids = nodes (map g.C.Agent.value c.args.children.now) in
    let n = dir_node d kids in
    are-then n (c.put_down.ensures kids) (are-then n (c.put_named.ensures d) (c.put_named-2.ensures d))
