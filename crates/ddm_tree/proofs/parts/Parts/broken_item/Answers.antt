use Rattle.std.proofs.Common.{◌≡◌, ◌∙◌, true, None, Some, map, vec_items, ap, sym, subst}
use Rattle.ddm_tree.specs.TreeModel.State.Shape.{widths_bounded}
use Rattle.ddm_tree.specs.TreeModel.State.Values.{dir_node, nodes, root_of}
use Rattle.ddm_tree.specs.TreeModel.Turns.Machine.{ask_bus}
use Rattle.ddm_tree.specs.TreeModel.Turns.Tree.{bus_of_number}
use Rattle.ddm_tree.specs.TreeRules.Bus.Rules.{items_of_machine}
use Rattle.state_judging.specs.Judged.{broken_item, or_none}
use Rattle.ddm_tree.specs.Judging.{node_broken}
use Rattle.ddm_tree.specs.Machine.{is_part, listed_path, machine_of}
use Rattle.ddm_tree.specs.Path.{node_at}
use Rattle.ddm_tree.specs.Ready.{Leads}
use Rattle.ddm_tree.proofs.PartsJudged.{judged-is}
use Rattle.ddm_tree.proofs.PartsKept.{listed-leads, parts-listed}
use Rattle.ddm_tree.proofs.TurnMade.{listed-has_path}
use Rattle.ddm_tree.proofs.parts.Parts.broken_item.Goals as goal

pub path_of-path-requires : goal.path_of-path-requires
path_of-path-requires g c =
    let m = machine_of c.self.inside.code c.self.inside.items c.self.inside.top (map g.C.Agent.value c.self.inside.children.items) c.self.inside.ops.items c.self.inside.traffic.items in
    let there : is_part (bus_of_number c.args.bus) m ≡ true = subst (λ n. is_part (bus_of_number c.args.bus) n ≡ true) (sym c.self.view_is) c.requires in
    let found = parts-listed g.row.WORDS (map vec_items c.self.inside.leaf_paths.items) (map vec_items c.self.inside.bus_paths.items) m (bus_of_number c.args.bus) c.self.invariant.0 there in
    rw c.deref-2.ensures.value (listed-has_path vec_items (bus_of_number c.args.bus) c.self.inside.leaf_paths.items c.self.inside.bus_paths.items found.path found.listed)

pub broken_under-requires-clause-judged : goal.broken_under-requires-clause-judged
broken_under-requires-clause-judged g c =
    let inv = c.self.invariant.0 in
    rw (c.deref-3.ensures.value, c.len.ensures) (record { rooms = inv.rooms; buses = inv.readable.shaped.each widths_bounded })

pub broken_under-requires-clause-leads : goal.broken_under-requires-clause-leads
broken_under-requires-clause-leads g c =
    let m = machine_of c.self.inside.code c.self.inside.items c.self.inside.top (map g.C.Agent.value c.self.inside.children.items) c.self.inside.ops.items c.self.inside.traffic.items in
    let there : is_part (bus_of_number c.args.bus) m ≡ true = subst (λ n. is_part (bus_of_number c.args.bus) n ≡ true) (sym c.self.view_is) c.requires in
    let found = parts-listed g.row.WORDS (map vec_items c.self.inside.leaf_paths.items) (map vec_items c.self.inside.bus_paths.items) m (bus_of_number c.args.bus) c.self.invariant.0 there in
    let listed : Some c.path_of-path.result.now ≡ listed_path (bus_of_number c.args.bus) (map vec_items c.self.inside.leaf_paths.items) (map vec_items c.self.inside.bus_paths.items) = rw c.deref-2.ensures.value at c.path_of-path.ensures in
    rw c.deref-3.ensures.value (listed-leads (bus_of_number c.args.bus) m (map vec_items c.self.inside.leaf_paths.items) (map vec_items c.self.inside.bus_paths.items) found c.path_of-path.result.now (sym listed))

pub returns : goal.returns
returns g c =
    let m = machine_of c.self.inside.code c.self.inside.items c.self.inside.top (map g.C.Agent.value c.self.inside.children.items) c.self.inside.ops.items c.self.inside.traffic.items in
    let root : dir_node c.self.inside.top (nodes (map g.C.Agent.value c.deref-3.result.now)) ≡ root_of m = ap (λ cs. dir_node c.self.inside.top (nodes (map g.C.Agent.value cs))) c.deref-3.ensures.value in
    let there : is_part (bus_of_number c.args.bus) m ≡ true = subst (λ n. is_part (bus_of_number c.args.bus) n ≡ true) (sym c.self.view_is) c.requires in
    let found = parts-listed g.row.WORDS (map vec_items c.self.inside.leaf_paths.items) (map vec_items c.self.inside.bus_paths.items) m (bus_of_number c.args.bus) c.self.invariant.0 there in
    let listed : Some c.path_of-path.result.now ≡ listed_path (bus_of_number c.args.bus) (map vec_items c.self.inside.leaf_paths.items) (map vec_items c.self.inside.bus_paths.items) = rw c.deref-2.ensures.value at c.path_of-path.ensures in
    let leads : Leads (bus_of_number c.args.bus) c.path_of-path.result.now (root_of m) = listed-leads (bus_of_number c.args.bus) m (map vec_items c.self.inside.leaf_paths.items) (map vec_items c.self.inside.bus_paths.items) found c.path_of-path.result.now (sym listed) in
    let counted : c.broken_under.result ≡ node_broken (items_of_machine m) (node_at c.path_of-path.result.now (dir_node c.self.inside.top (nodes (map g.C.Agent.value c.deref-3.result.now)))) = rw c.len.ensures at c.broken_under.ensures in
    let broken : c.broken_under.result ≡ node_broken (items_of_machine m) (node_at c.path_of-path.result.now (root_of m)) = counted ∙ ap (λ n. node_broken (items_of_machine m) (node_at c.path_of-path.result.now n)) root in
    subst (λ n. c.broken_under.result ≡ or_none n (ask_bus c.args.bus (λ w p ns. broken_item n p ns) None n)) c.self.view_is (broken ∙ judged-is m c.args.bus c.path_of-path.result.now leads c.self.invariant.0.readable.shaped)
