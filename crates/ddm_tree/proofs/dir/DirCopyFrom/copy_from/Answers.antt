use Rattle.std.proofs.Common.{◌∙◌, ap, sym, length, map, arith}
use Rattle.std.proofs.lemmas.List.{length-map}
use Rattle.ddm_tree.proofs.Copies.{alike-child, alike-count}
use Rattle.ddm_tree.proofs.dir.DirCopyFrom.copy_from.Goals as goal

pub copy_children-requires-clause-alike : goal.copy_children-requires-clause-alike
copy_children-requires-clause-alike g c =
    let xs = c.args.self.now.children.items in
    let ys = c.args.other.now.children.items in
    rw (c.deref_mut.ensures.value, c.deref.ensures.value) (λ number inside. alike-child c.args.self.now.state c.args.other.now.state (map g.C.Agent.value xs) (map g.C.Agent.value ys) c.requires number (omega (arith, inside, length-map ys g.C.Agent.value)))

pub copy_children-requires-clause-as_many : goal.copy_children-requires-clause-as_many
copy_children-requires-clause-as_many g c =
    let xs = c.args.self.now.children.items in
    let ys = c.args.other.now.children.items in
    ap length c.deref_mut.ensures.value ∙ sym (length-map xs g.C.Agent.value) ∙ alike-count c.args.self.now.state c.args.other.now.state (map g.C.Agent.value xs) (map g.C.Agent.value ys) c.requires ∙ length-map ys g.C.Agent.value ∙ sym (ap length c.deref.ensures.value)
