use Rattle.std.proofs.Common.{◌≡◌, ◌≤◌, length, [], map, vec_items, lit<, arith, refl, ◌∙◌}
use Rattle.ddm_tree.specs.Machine.{listed_path}
use Rattle.ddm_tree.specs.ReadBack.{section_name}
use Rattle.ddm_tree.proofs.Steps.{own-few, own-path}
use Rattle.ddm_tree.proofs.SectionRead.{own-put}
use Rattle.ddm_tree.proofs.TurnMade.{same-path}
use Rattle.ddm_tree.proofs.parts.read_into.Goals as goal

pub overflow_cast-children : goal.overflow_cast-children
overflow_cast-children g c =
    let few : length c.args.children.now ≤ 16 = own-few g.C.Agent.value c.args.top.now c.args.children.now [] refl c.requires.buses in
    omega (arith, few)

pub read_part-requires : goal.read_part-requires
read_part-requires g c = (lit< tt, (c.requires.few, (c.requires.inside, own-few g.C.Agent.value c.args.top.now c.args.children.now [] refl c.requires.buses)))

pub returns-then-is_empty-clause-read : goal.returns-then-is_empty-clause-read
returns-then-is_empty-clause-read g c = λ path listed.
    let own = own-path c.path_of-path.result.now c.is_empty.result c.is_empty.ensures c.if-is_empty.true in
    let name = section_name c.args.section in
    let same : path ≡ c.path_of-path.result.now = same-path (listed_path name (map vec_items c.args.leaf_paths.now) (map vec_items c.args.bus_paths.now)) c.path_of-path.result.now path (rw c.section_name.ensures at c.path_of-path.ensures) listed in
    own-put g.C.Agent.value c.args.children.now path c.args.words.now c.args.from c.args.top.now c.read_part.new.self (same ∙ own) c.args.section (length c.args.children.now) refl (c.requires.leads path listed) c.read_part.result c.read_part.ensures.read
