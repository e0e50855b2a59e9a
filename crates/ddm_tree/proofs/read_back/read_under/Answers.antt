use Rattle.std.proofs.Common.{map}
use Rattle.ddm_tree.specs.ReadBack.{section_name}
use Rattle.ddm_tree.proofs.Steps.{step-down, step-inside}
use Rattle.ddm_tree.proofs.SectionRead.{kid-fits, under-read}
use Rattle.ddm_tree.proofs.read_back.read_under.Goals as goal

pub read_child-requires-clause-child : goal.read_child-requires-clause-child
read_child-requires-clause-child g c =
    step-inside g.C.Agent.value (g.P.Parent.state c.args.parent.now) c.args.children.now (section_name c.args.section) c.args.path.now c.in-Some.child.now c.in-Some.rest.now c.in-Some.ensures.cases.0 c.requires.leads

pub read_child-requires-clause-buses : goal.read_child-requires-clause-buses
read_child-requires-clause-buses g c =
    kid-fits g.C.Agent.value (g.P.Parent.state c.args.parent.now) c.args.children.now c.args.section c.args.path.now c.in-Some.child.now c.in-Some.rest.now c.in-Some.ensures.cases.0 c.requires.leads c.requires.buses

pub read_child-requires-clause-leads : goal.read_child-requires-clause-leads
read_child-requires-clause-leads g c =
    step-down g.C.Agent.value (g.P.Parent.state c.args.parent.now) c.args.children.now (section_name c.args.section) c.args.path.now c.in-Some.child.now c.in-Some.rest.now c.in-Some.ensures.cases.0 c.requires.leads

pub returns-clause-read : goal.returns-clause-read
returns-clause-read g c =
    under-read g.C.Agent.value (g.P.Parent.state c.args.parent.now) c.args.children.now c.args.section c.args.path.now c.in-Some.child.now c.in-Some.rest.now c.in-Some.ensures.cases.0 c.requires.leads c.args.words.now c.args.from (map g.C.Agent.value c.read_child.new.children) c.read_child.result c.read_child.ensures.read
