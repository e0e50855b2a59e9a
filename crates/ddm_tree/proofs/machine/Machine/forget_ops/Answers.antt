use Rattle.std.proofs.Common.{◌≤◌, List, map, vec_items, ap, subst, sym, ◌∙◌, arith}
use Rattle.ddm_tree.specs.DdmTypes.declared.operations.Op.{Op}
use Rattle.ddm_tree.specs.Machine.{IsMachine, MachineState, machine_of, without_ops}
use Rattle.ddm_tree.proofs.Forgotten.{without-keeps}
use Rattle.ddm_tree.proofs.machine.Machine.forget_ops.Goals as goal

pub invariant_of-self : goal.invariant_of-self
invariant_of-self g c =
    let m = machine_of c.self.inside.code c.self.inside.items c.self.inside.top (map g.C.Agent.value c.self.inside.children.items) c.self.inside.ops.items c.self.inside.traffic.items in
    let inv = c.self.invariant in
    let leaf_paths = map vec_items c.self.inside.leaf_paths.items in
    let bus_paths = map vec_items c.self.inside.bus_paths.items in
    let keeps = without-keeps g.row.WORDS c.self.inside.turns leaf_paths bus_paths m inv.0 in
    let room : c.self.inside.spare ≤ c.clear.new.self.spare = omega (arith, inv.4, ap (λ o. o.spare) c.clear.ensures) in
    let none = ap (λ o. o.items) c.clear.ensures in
    (subst (λ (ops : List Op). IsMachine g.row.WORDS (record m { ops = ops }) c.self.inside.turns leaf_paths bus_paths) (sym none) keeps, inv.1, inv.2, inv.3, room, inv.5, inv.6, inv.7, inv.8)

pub returns : goal.returns
returns g c =
    let m = machine_of c.self.inside.code c.self.inside.items c.self.inside.top (map g.C.Agent.value c.self.inside.children.items) c.self.inside.ops.items c.self.inside.traffic.items in
    let with_ops : List Op → MachineState = λ ops. record { machine = record m { ops = ops }; spare = c.self.inside.spare; turns = c.self.inside.turns } in
    ap with_ops (ap (λ o. o.items) c.clear.ensures) ∙ ap (λ (s : MachineState). record s { machine = without_ops s.machine }) c.self.view_is
