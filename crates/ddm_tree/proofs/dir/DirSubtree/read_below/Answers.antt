use Rattle.std.proofs.Common.{◌≡◌, length, ◌≤◌, lit<, arith}
use Rattle.ddm_tree.proofs.Steps.{own-few, own-path}
use Rattle.ddm_tree.proofs.SectionRead.{own-put}
use Rattle.ddm_tree.proofs.dir.DirSubtree.read_below.Goals as goal

pub overflow_cast-len : goal.overflow_cast-len
overflow_cast-len g c =
    let few : length c.args.self.now.children.items ≤ 16 = own-few g.C.Agent.value c.args.self.now.state c.args.self.now.children.items c.args.path.now (own-path c.args.path.now c.is_empty.result c.is_empty.ensures c.if-is_empty.true) c.requires.buses in
    omega (arith, few, c.len.ensures)

pub read_part-requires : goal.read_part-requires
read_part-requires g c =
    let few : length c.args.self.now.children.items ≤ 16 = own-few g.C.Agent.value c.args.self.now.state c.args.self.now.children.items c.args.path.now (own-path c.args.path.now c.is_empty.result c.is_empty.ensures c.if-is_empty.true) c.requires.buses in
    (lit< tt, (c.requires.few, (c.requires.inside, omega (arith, few, c.len.ensures))))

pub returns-then-is_empty-clause-read : goal.returns-then-is_empty-clause-read
returns-then-is_empty-clause-read g c =
    let own = own-path c.args.path.now c.is_empty.result c.is_empty.ensures c.if-is_empty.true in
    let count : c.len.result ≡ length c.args.self.now.children.items = omega (arith, c.len.ensures) in
    own-put g.C.Agent.value c.args.self.now.children.items c.args.path.now c.args.words.now c.args.from c.args.self.now.state c.read_part.new.self own c.args.section c.len.result count c.requires.leads c.read_part.result c.read_part.ensures.read
