use Rattle.std.proofs.Common.{◌≡◌, map, true, Some, sym, ap, subst, ◌∙◌}
use Rattle.ddm_tree.specs.TreeModel.State.Values.{dir_node, nodes, root_of}
use Rattle.ddm_tree.specs.TreeModel.State.Shape.{skeleton, widths_bounded, widths_fit}
use Rattle.ddm_tree.specs.Reads.{node_children}
use Rattle.ddm_tree.specs.Path.{node_at}
use Rattle.ddm_tree.proofs.Reading.{children-is}
use Rattle.ddm_tree.proofs.machine.Machine.children.Goals as goal

pub children_under-requires-clause-buses : goal.children_under-requires-clause-buses
children_under-requires-clause-buses g c = subst (λ cs. widths_fit (skeleton (dir_node c.self.inside.top (nodes (map g.C.Agent.value cs)))) ≡ true) (sym c.deref.ensures.value) (c.self.invariant.0.shaped.each widths_bounded)

pub returns : goal.returns
returns g c =
    let root : dir_node c.self.inside.top (nodes (map g.C.Agent.value c.deref.result.now)) ≡ root_of c.args.self.now.machine = ap (λ cs. dir_node c.self.inside.top (nodes (map g.C.Agent.value cs))) c.deref.ensures.value ∙ ap (λ s. root_of s.machine) c.self.view_is in
    ap Some (c.children_under.ensures ∙ ap (λ n. node_children (node_at c.bus_path-path.result.now n)) root) ∙ children-is c.args.self.now.machine c.args.bus c.bus_path-path.result.now c.bus_path-path.ensures
