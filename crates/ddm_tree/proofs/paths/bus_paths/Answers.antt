use Rattle.std.proofs.Common.{◌≡◌, ℕ, List, length, map, vec_items, ap, ◌∙◌, arith}
use Rattle.std.specs.Prelude.{slice_get}
use Rattle.ddm_tree.specs.TreeModel.State.Values.{dir_node, nodes}
use Rattle.ddm_tree.specs.TreeModel.Turns.Tree.{bus_of_number}
use Rattle.ddm_tree.specs.Ready.{Leads}
use Rattle.ddm_tree.proofs.Search.{one-listed, one-more}
use Rattle.ddm_tree.proofs.paths.bus_paths.Goals as goal

pub loop-bus-init : goal.loop-bus-init
loop-bus-init g c = (ap length c.new-paths.ensures.items, λ k path below leads. absurd (omega (arith, below)))

pub loop-bus-preserved : goal.loop-bus-preserved
loop-bus-preserved g c =
    let items = c.in_ok-push.ensures.items in
    let root = dir_node (g.P.Parent.state c.args.parent.now) (nodes (map g.C.Agent.value c.args.children.now)) in
    let told : (path : List ℕ) → Leads (bus_of_number c.loop-bus.bus) path root → c.in_ok-path_down.field-0.items ≡ path = c.in_ok-path_down.ensures in
    let longer = one-more c.loop-bus.paths.items c.in_ok-path_down.field-0 c.loop-bus.bus c.loop-bus.invariant.0 in
    let all = one-listed vec_items (λ k path. Leads (bus_of_number k) path root) c.loop-bus.paths.items c.in_ok-path_down.field-0 c.loop-bus.bus c.loop-bus.invariant.0 c.loop-bus.invariant.1 told in
    (ap length items ∙ longer, λ k path below leads. ap (λ ps. slice_get (map vec_items ps) k) items ∙ all k path below leads)

pub returns : goal.returns
returns g c = λ k path below leads. c.loop-bus.invariant.1 k path (omega (arith, below, c.loop-bus-test.false)) leads
