-- One turn, of the directory's own bus or further down.
use Rattle.std.proofs.Common.{map, sym, ap, subst, ◌∙◌, arith}
use Rattle.std.proofs.lemmas.List.{nil_from_length, length-map}
use Rattle.ddm_tree.specs.DdmTypes.ItemTable.{item_count}
use Rattle.ddm_tree.specs.TreeModel.Turns.Bus.{bus_step}
use Rattle.ddm_tree.specs.TreeModel.Turns.Machine.{named_by, bus_turn_of}
use Rattle.ddm_tree.specs.Ready.{HasChild}
use Rattle.ddm_tree.proofs.Steps.{step-inside, step-ready, step-down, node-down, answer-down, after-down, own-answer, own-after, own-ready, own-sized, own-named}
use Rattle.ddm_tree.proofs.below.turn_under.Goals as goal

pub turn_of_child-requires-clause-child : goal.turn_of_child-requires-clause-child
turn_of_child-requires-clause-child g c = step-inside g.C.Agent.value (g.P.Parent.state c.args.parent.now) c.args.children.now (named_by c.args.call.now.turn.now) c.args.rest.now c.in-Some.child.now c.in-Some.further.now c.in-Some.ensures.cases.0 c.requires.leads

pub turn_of_child-requires-clause-ready : goal.turn_of_child-requires-clause-ready
turn_of_child-requires-clause-ready g c = step-ready g.C.Agent.value (g.P.Parent.state c.args.parent.now) c.args.children.now (named_by c.args.call.now.turn.now) c.args.rest.now c.in-Some.child.now c.in-Some.further.now c.in-Some.ensures.cases.0 c.requires.leads (item_count c.args.call.now.items.now) g.row.WORDS c.requires.ready

pub turn_of_child-requires-clause-leads : goal.turn_of_child-requires-clause-leads
turn_of_child-requires-clause-leads g c = step-down g.C.Agent.value (g.P.Parent.state c.args.parent.now) c.args.children.now (named_by c.args.call.now.turn.now) c.args.rest.now c.in-Some.child.now c.in-Some.further.now c.in-Some.ensures.cases.0 c.requires.leads

pub turn_of_child-requires-clause-names : goal.turn_of_child-requires-clause-names
turn_of_child-requires-clause-names g c = subst (HasChild (bus_turn_of c.args.call.now.turn.now)) (node-down g.C.Agent.value (g.P.Parent.state c.args.parent.now) c.args.children.now (named_by c.args.call.now.turn.now) c.args.rest.now c.in-Some.child.now c.in-Some.further.now c.in-Some.ensures.cases.0 c.requires.leads) c.requires.child

pub grant_into-requires-clause-few : goal.grant_into-requires-clause-few
grant_into-requires-clause-few g c =
    let r = own-ready g.C.Agent.value (g.P.Parent.state c.args.parent.now) c.args.children.now (item_count c.args.call.now.items.now) g.row.WORDS c.requires.ready in
    omega (arith, r.few, length-map c.args.children.now g.C.Agent.value)

pub grant_into-requires-clause-child : goal.grant_into-requires-clause-child
grant_into-requires-clause-child g c = own-named g.C.Agent.value (g.P.Parent.state c.args.parent.now) c.args.children.now c.args.rest.now (nil_from_length c.args.rest.now c.in-None.ensures.cases) (bus_turn_of c.args.call.now.turn.now) c.on_bus.result c.on_bus.ensures c.requires.child

pub grant_into-requires-clause-sized : goal.grant_into-requires-clause-sized
grant_into-requires-clause-sized g c = own-sized g.C.Agent.value (g.P.Parent.state c.args.parent.now) c.args.children.now (item_count c.args.call.now.items.now) g.row.WORDS c.requires.ready

pub returns-in-Some-clause-answer : goal.returns-in-Some-clause-answer
returns-in-Some-clause-answer g c = c.turn_of_child.ensures.answer ∙ answer-down g.C.Agent.value (g.P.Parent.state c.args.parent.now) c.args.children.now (named_by c.args.call.now.turn.now) c.args.rest.now c.in-Some.child.now c.in-Some.further.now c.in-Some.ensures.cases.0 c.requires.leads c.args.call.now.code.now c.args.call.now.items.now c.args.call.now.turn.now c.args.call.now.path.now c.args.present.now c.stamp-below.result c.stamp-below.ensures

pub returns-in-Some-clause-after : goal.returns-in-Some-clause-after
returns-in-Some-clause-after g c = after-down g.C.Agent.value (g.P.Parent.state c.args.parent.now) c.args.children.now (named_by c.args.call.now.turn.now) c.args.rest.now c.in-Some.child.now c.in-Some.further.now c.in-Some.ensures.cases.0 c.requires.leads c.args.call.now.code.now c.args.call.now.items.now c.args.call.now.turn.now c.args.call.now.path.now c.args.present.now c.stamp-below.result c.stamp-below.ensures (map g.C.Agent.value c.turn_of_child.new.children) c.turn_of_child.ensures.after

pub returns-in-None-clause-answer : goal.returns-in-None-clause-answer
returns-in-None-clause-answer g c = c.grant_into.ensures.answer ∙ ap (λ b. (bus_step c.args.present.now b (g.P.Parent.state c.args.parent.now) (map g.C.Agent.value c.args.children.now)).answer) c.on_bus.ensures ∙ sym (own-answer g.C.Agent.value (g.P.Parent.state c.args.parent.now) c.args.children.now c.args.rest.now (nil_from_length c.args.rest.now c.in-None.ensures.cases) c.args.call.now.code.now c.args.call.now.items.now c.args.call.now.turn.now c.args.call.now.path.now c.args.present.now)

pub returns-in-None-clause-after : goal.returns-in-None-clause-after
returns-in-None-clause-after g c =
    let kids = c.grant_into.ensures.kids in
    rw (c.grant_into.ensures.parent, kids, c.on_bus.ensures) (sym (own-after g.C.Agent.value (g.P.Parent.state c.args.parent.now) c.args.children.now c.args.rest.now (nil_from_length c.args.rest.now c.in-None.ensures.cases) c.args.call.now.code.now c.args.call.now.items.now c.args.call.now.turn.now c.args.call.now.path.now c.args.present.now))
