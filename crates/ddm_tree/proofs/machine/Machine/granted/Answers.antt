use Rattle.std.proofs.Common.{◌≡◌, ◌<◌, length, map, true, sym, ap, subst, ◌∙◌, arith}
use Rattle.ddm_tree.specs.TreeModel.Turns.Tree.{bus_of_number}
use Rattle.ddm_tree.specs.TreeModel.Turns.Machine.{granted_of, grants_of, no_traffic}
use Rattle.std.specs.Prelude.{slice_index_or}
use Rattle.ddm_tree.specs.Machine.{is_part, machine_of}
use Rattle.ddm_tree.proofs.Reading.{any-default, bus-counted}
use Rattle.ddm_tree.proofs.machine.Machine.granted.Goals as goal

pub index-requires : goal.index-requires
index-requires g c =
    let m = machine_of c.self.inside.code c.self.inside.items c.self.inside.top (map g.C.Agent.value c.self.inside.children.items) c.self.inside.ops.items c.self.inside.traffic.items in
    let there : is_part (bus_of_number c.args.bus) m ≡ true = subst (λ s. is_part (bus_of_number c.args.bus) s.machine ≡ true) (sym c.self.view_is) c.requires in
    let counted : c.args.bus < length c.self.inside.traffic.items = bus-counted m c.args.bus c.self.invariant.0.shaped there in
    omega (arith, counted, c.bus.view_is)

pub returns : goal.returns
returns g c =
    let m = machine_of c.self.inside.code c.self.inside.items c.self.inside.top (map g.C.Agent.value c.self.inside.children.items) c.self.inside.ops.items c.self.inside.traffic.items in
    let there : is_part (bus_of_number c.args.bus) m ≡ true = subst (λ s. is_part (bus_of_number c.args.bus) s.machine ≡ true) (sym c.self.view_is) c.requires in
    let counted : c.args.bus < length c.self.inside.traffic.items = bus-counted m c.args.bus c.self.invariant.0.shaped there in
    let at : c.index.result.now ≡ slice_index_or c.self.inside.traffic.items c.args.bus c.index.result.now = rw (c.bus.view_is) at c.index.ensures in
    let same : c.index.result.now ≡ slice_index_or c.self.inside.traffic.items c.args.bus no_traffic = at ∙ any-default c.self.inside.traffic.items c.args.bus c.index.result.now no_traffic counted in
    c.granted_of.ensures ∙ ap (granted_of c.args.kind) same ∙ ap (λ s. grants_of c.args.bus c.args.kind s.machine) c.self.view_is
