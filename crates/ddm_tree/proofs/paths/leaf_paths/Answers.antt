use Rattle.std.proofs.Common.{◌≡◌, ℕ, List, length, map, vec_items, ap, ◌∙◌, arith}
use Rattle.std.specs.Prelude.{slice_get}
use Rattle.ddm_tree.specs.TreeModel.State.Values.{dir_node, nodes}
use Rattle.ddm_tree.specs.TreeModel.Turns.Tree.{leaf_of_number}
use Rattle.ddm_tree.specs.Ready.{Leads}
use Rattle.ddm_tree.proofs.Search.{one-listed, one-more}
use Rattle.ddm_tree.proofs.paths.leaf_paths.Goals as goal

pub loop-leaf-init : goal.loop-leaf-init
loop-leaf-init g c = (ap length c.new-paths.ensures.items, λ k path below leads. absurd (omega (arith, below)))

pub loop-leaf-preserved : goal.loop-leaf-preserved
loop-leaf-preserved g c =
    let items = c.in_ok-push.ensures.items in
    let root = dir_node (g.P.Parent.state c.args.parent.now) (nodes (map g.C.Agent.value c.args.children.now)) in
    let told : (path : List ℕ) → Leads (leaf_of_number c.loop-leaf.leaf) path root → c.in_ok-path_down.field-0.items ≡ path = c.in_ok-path_down.ensures in
    let longer = one-more c.loop-leaf.paths.items c.in_ok-path_down.field-0 c.loop-leaf.leaf c.loop-leaf.invariant.0 in
    let all = one-listed vec_items (λ k path. Leads (leaf_of_number k) path root) c.loop-leaf.paths.items c.in_ok-path_down.field-0 c.loop-leaf.leaf c.loop-leaf.invariant.0 c.loop-leaf.invariant.1 told in
    (ap length items ∙ longer, λ k path below leads. ap (λ ps. slice_get (map vec_items ps) k) items ∙ all k path below leads)

pub returns : goal.returns
returns g c = λ k path below leads. c.loop-leaf.invariant.1 k path (omega (arith, below, c.loop-leaf-test.false)) leads
