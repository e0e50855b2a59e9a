use Rattle.std.proofs.Common.{sym, ◌∙◌, arith}
use Rattle.ddm_tree.proofs.Steps.{own-path, own-inside, own-leaving}
use Rattle.ddm_tree.proofs.below.leaving_count_under.Goals as goal

pub offset_bounds-children-child-inside : goal.offset_bounds-children-child-inside
offset_bounds-children-child-inside g c =
    let there = own-inside g.C.Agent.value (g.P.Parent.state c.args.parent.now) c.args.children.now c.args.path.now (own-path c.args.path.now c.is_empty.result c.is_empty.ensures c.if-is_empty.true) c.args.child c.requires.child in
    omega (arith, there, c.child.view_is)

pub bounds-children-child-inside : goal.bounds-children-child-inside
bounds-children-child-inside g c =
    let there = own-inside g.C.Agent.value (g.P.Parent.state c.args.parent.now) c.args.children.now c.args.path.now (own-path c.args.path.now c.is_empty.result c.is_empty.ensures c.if-is_empty.true) c.args.child c.requires.child in
    omega (arith, there, c.child.view_is)

pub returns-then-is_empty : goal.returns-then-is_empty
returns-then-is_empty g c = c.leaving_count.ensures ∙ sym (own-leaving g.C.Agent.value (g.P.Parent.state c.args.parent.now) c.args.children.now c.args.path.now (own-path c.args.path.now c.is_empty.result c.is_empty.ensures c.if-is_empty.true) c.args.child c.requires.child c.index-children-child.result (rw c.child.view_is at c.index-children-child.is))
