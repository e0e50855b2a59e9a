use Rattle.ddm_tree.specs.ReadBack.{section_name}
use Rattle.ddm_tree.proofs.SectionRead.{hart-put, leaf-ends, rest-put}
use Rattle.ddm_tree.proofs.leaf.LeafSubtree.read_below.Goals as goal

pub returns-in-Hart-clause-read : goal.returns-in-Hart-clause-read
returns-in-Hart-clause-read g c =
    let own = leaf-ends (section_name c.args.section) c.args._path.now c.args.self.now c.requires.leads in
    rw c.in-Hart.is (hart-put c.in-Hart.field-0 c.args._path.now c.args.words.now c.args.from c.args.self.now c.read_hart.new.self own c.read_hart.result c.read_hart.ensures.read)

pub returns-in-Leaf-clause-read : goal.returns-in-Leaf-clause-read
returns-in-Leaf-clause-read g c =
    let own = leaf-ends (section_name c.args.section) c.args._path.now c.args.self.now c.requires.leads in
    rw c.in-Leaf.is (rest-put c.in-Leaf.field-0 c.args._path.now c.args.words.now c.args.from c.args.self.now c.read_part.new.self own c.read_part.result c.read_part.ensures.read)
