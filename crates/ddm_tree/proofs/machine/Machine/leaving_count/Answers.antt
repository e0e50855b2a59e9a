use Rattle.std.proofs.Common.{◌≡◌, map, Some, sym, ap, subst, ◌∙◌, arith}
use Rattle.ddm_tree.specs.TreeModel.State.Values.{dir_node, nodes, root_of}
use Rattle.ddm_tree.specs.Reads.{node_leaving_count}
use Rattle.ddm_tree.specs.Ready.{IsChild}
use Rattle.ddm_tree.specs.Path.{node_at}
use Rattle.ddm_tree.proofs.Reading.{child-bound, leaving_count-is, parent-there}
use Rattle.ddm_tree.proofs.machine.Machine.leaving_count.Goals as goal

pub bus_path-path-requires : goal.bus_path-path-requires
bus_path-path-requires g c = (omega arith, parent-there c.args.bus c.args.child c.args.self.now.machine c.requires)

pub leaving_count_under-requires-clause-child : goal.leaving_count_under-requires-clause-child
leaving_count_under-requires-clause-child g c =
    let root : dir_node c.self.inside.top (nodes (map g.C.Agent.value c.deref.result.now)) ≡ root_of c.args.self.now.machine = ap (λ cs. dir_node c.self.inside.top (nodes (map g.C.Agent.value cs))) c.deref.ensures.value ∙ ap (λ s. root_of s.machine) c.self.view_is in
    subst (λ n. IsChild c.args.child (node_at c.bus_path-path.result.now n)) (sym root) (child-bound c.args.self.now.machine c.args.bus c.bus_path-path.result.now c.bus_path-path.ensures c.args.child c.requires)

pub returns : goal.returns
returns g c =
    let root : dir_node c.self.inside.top (nodes (map g.C.Agent.value c.deref.result.now)) ≡ root_of c.args.self.now.machine = ap (λ cs. dir_node c.self.inside.top (nodes (map g.C.Agent.value cs))) c.deref.ensures.value ∙ ap (λ s. root_of s.machine) c.self.view_is in
    ap Some (c.leaving_count_under.ensures ∙ ap (λ n. node_leaving_count c.args.child (node_at c.bus_path-path.result.now n)) root) ∙ leaving_count-is c.args.self.now.machine c.args.bus c.bus_path-path.result.now c.bus_path-path.ensures c.args.child
