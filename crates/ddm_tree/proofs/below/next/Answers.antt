-- The child that the path leads to first.
use Rattle.std.proofs.Common.{arith}
use Rattle.ddm_tree.specs.Named.{name_of}
use Rattle.ddm_tree.proofs.Steps.{step-inside, step-fits, step-leads, step-below, step-node, step-present}
use Rattle.ddm_tree.proofs.Asking.{step-askable}
use Rattle.ddm_tree.proofs.JudgedItems.{step-judged}
use Rattle.ddm_tree.proofs.below.next.Goals as goal

pub offset_bounds-children-child-inside : goal.offset_bounds-children-child-inside
offset_bounds-children-child-inside g c =
    let there = step-inside g.C.Agent.value (g.P.Parent.state c.args.parent.now) c.args.children.now (name_of c.args.name) c.args.path.now c.in-Some.child.now c.in-Some.rest.now c.in-Some.ensures.cases.0 c.requires.leads in
    omega (arith, there, c.child.view_is)

pub bounds-children-child-inside : goal.bounds-children-child-inside
bounds-children-child-inside g c =
    let there = step-inside g.C.Agent.value (g.P.Parent.state c.args.parent.now) c.args.children.now (name_of c.args.name) c.args.path.now c.in-Some.child.now c.in-Some.rest.now c.in-Some.ensures.cases.0 c.requires.leads in
    omega (arith, there, c.child.view_is)

pub returns-clause-leads : goal.returns-clause-leads
returns-clause-leads g c =
    step-leads g.C.Agent.value (g.P.Parent.state c.args.parent.now) c.args.children.now (name_of c.args.name) c.args.path.now c.in-Some.child.now c.in-Some.rest.now c.in-Some.ensures.cases.0 c.requires.leads c.index-children-child.result (rw c.child.view_is at c.index-children-child.is)

pub returns-clause-node : goal.returns-clause-node
returns-clause-node g c =
    step-node g.C.Agent.value (g.P.Parent.state c.args.parent.now) c.args.children.now (name_of c.args.name) c.args.path.now c.in-Some.child.now c.in-Some.rest.now c.in-Some.ensures.cases.0 c.requires.leads c.index-children-child.result (rw c.child.view_is at c.index-children-child.is)

pub returns-clause-present : goal.returns-clause-present
returns-clause-present g c =
    step-present g.C.Agent.value (g.P.Parent.state c.args.parent.now) c.args.children.now (name_of c.args.name) c.args.path.now c.in-Some.child.now c.in-Some.rest.now c.in-Some.ensures.cases.0 c.requires.leads c.index-children-child.result (rw c.child.view_is at c.index-children-child.is)

pub returns-clause-fits : goal.returns-clause-fits
returns-clause-fits g c =
    step-fits g.C.Agent.value (g.P.Parent.state c.args.parent.now) c.args.children.now (name_of c.args.name) c.args.path.now c.in-Some.child.now c.in-Some.rest.now c.in-Some.ensures.cases.0 c.requires.leads c.index-children-child.result (rw c.child.view_is at c.index-children-child.is)

pub returns-clause-below : goal.returns-clause-below
returns-clause-below g c =
    step-below g.C.Agent.value (g.P.Parent.state c.args.parent.now) c.args.children.now (name_of c.args.name) c.args.path.now c.in-Some.child.now c.in-Some.rest.now c.in-Some.ensures.cases.0 c.requires.leads c.index-children-child.result (rw c.child.view_is at c.index-children-child.is)

pub returns-clause-askable : goal.returns-clause-askable
returns-clause-askable g c askable =
    step-askable g.C.Agent.value (g.P.Parent.state c.args.parent.now) c.args.children.now g.row.WORDS askable (name_of c.args.name) c.args.path.now c.in-Some.child.now c.in-Some.rest.now c.in-Some.ensures.cases.0 c.requires.leads c.index-children-child.result (rw c.child.view_is at c.index-children-child.is)

pub returns-clause-judged : goal.returns-clause-judged
returns-clause-judged g c items judged =
    step-judged g.C.Agent.value (g.P.Parent.state c.args.parent.now) c.args.children.now items judged (name_of c.args.name) c.args.path.now c.in-Some.child.now c.in-Some.rest.now c.in-Some.ensures.cases.0 c.requires.leads c.index-children-child.result (rw c.child.view_is at c.index-children-child.is)
