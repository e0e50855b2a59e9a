use Rattle.std.proofs.Common.{rules, ◌≡◌, ap, ◌∙◌, arith, Err, map, vec_items}
use Rattle.ddm_tree.specs.TreeModel.State.Shape.{frame_of}
use Rattle.ddm_tree.specs.TreeModel.Turns.Tree.{bus_of_number}
use Rattle.ddm_tree.specs.Machine.{machine_of}
use Rattle.ddm_tree.specs.Parts.{traffic_refused}
use Rattle.ddm_tree.specs.declared.section.Section.{Section}
use Rattle.ddm_tree.proofs.BusesRead.{read-frame, same-part, set-counts, set-frame, set-parts}
use Rattle.ddm_tree.proofs.Reading.{bus-counted}
use Rattle.ddm_tree.proofs.parts.Parts.read_bus.Goals as goal

pub returns-in_err-traffic-clause-refused : goal.returns-in_err-traffic-clause-refused
returns-in_err-traffic-clause-refused g c =
    let e = c.in_err-traffic.field-0.0 in
    let is : c.from_residual-in_err-traffic.result ≡ Err e = search rules in
    rw is (traffic_refused c.in_ok-next.next c.in_ok-next.behind c.in_ok-next.ensures.read c.in_err-traffic.ensures.read)

pub index_mut-requires : goal.index_mut-requires
index_mut-requires g c =
    let m = machine_of c.parts.inside.code c.parts.inside.items c.parts.inside.top (map g.C.Agent.value c.parts.inside.children.items) c.parts.inside.ops.items c.parts.inside.traffic.items in
    let view : m ≡ c.in_ok-next.next = c.parts.view_is in
    let same = read-frame (Section.Bus c.args.bus) c.args.words.now c.args.from c.args.self c.in_ok-next.next c.in_ok-next.behind c.in_ok-next.ensures.read c.counts.ensures.readable c.counts.ensures.rooms in
    let there = same-part (bus_of_number c.args.bus) c.args.self m (ap frame_of view ∙ same) c.requires.there in
    let counted = bus-counted m c.args.bus c.parts.invariant.0.readable.shaped there in
    rw c.bus.view_is (omega (arith, counted, c.parts.inside.traffic.ok.0))

pub invariant_of-parts : goal.invariant_of-parts
invariant_of-parts g c =
    let m = machine_of c.parts.inside.code c.parts.inside.items c.parts.inside.top (map g.C.Agent.value c.parts.inside.children.items) c.parts.inside.ops.items c.parts.inside.traffic.items in
    let inv = c.parts.invariant in
    (set-parts g.row.WORDS m (map vec_items c.parts.inside.leaf_paths.items) (map vec_items c.parts.inside.bus_paths.items) c.bus.inside.0 c.in_ok-traffic.traffic inv.0, set-counts m c.bus.inside.0 c.in_ok-traffic.traffic ∙ inv.1, inv.2, inv.3, inv.4)

pub returns-clause-frame : goal.returns-clause-frame
returns-clause-frame g c =
    let m = machine_of c.parts.inside.code c.parts.inside.items c.parts.inside.top (map g.C.Agent.value c.parts.inside.children.items) c.parts.inside.ops.items c.parts.inside.traffic.items in
    let view : m ≡ c.in_ok-next.next = c.parts.view_is in
    let same = read-frame (Section.Bus c.args.bus) c.args.words.now c.args.from c.args.self c.in_ok-next.next c.in_ok-next.behind c.in_ok-next.ensures.read c.counts.ensures.readable c.counts.ensures.rooms in
    set-frame m c.bus.inside.0 c.in_ok-traffic.traffic ∙ ap frame_of view ∙ same
