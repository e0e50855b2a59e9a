use Rattle.ddm_tree.proofs.SectionRead.{child-read}
use Rattle.ddm_tree.proofs.read_back.read_child.Goals as goal

pub returns-clause-read : goal.returns-clause-read
returns-clause-read g c =
    child-read g.C.Agent.value c.args.children.now c.args.c c.c.inside.0 c.index-children-c.result c.read_below.new.self c.c.view_is c.requires.child c.args.section c.args.path.now c.args.words.now c.args.from c.read_below.result c.read_below.ensures.read
