use Rattle.std.proofs.Common.{◌≡◌, ◌+◌, length, map, drop, sym, ap, ◌∙◌}
use Rattle.ddm_tree.specs.TreeModel.Start.Nodes.{held_below, held_by, or_each}
use Rattle.ddm_tree.proofs.Marked.{marked-end, marked-next}
use Rattle.ddm_tree.proofs.Search.{here-all}
use Rattle.ddm_tree.proofs.marking.mark_children.Goals as goal

pub mark_held-requires-clause-whole : goal.mark_held-requires-clause-whole
mark_held-requires-clause-whole g c =
    c.loop-child.auto.held ∙ sym (here-all g.C.Agent.value c.args.children.now c.loop-child.child-index c.child-item.result c.loop-child-test.true c.child-item.is (λ n. length (held_by n) ≡ length c.args.held.now) c.requires.whole)

pub loop-child-preserved : goal.loop-child-preserved
loop-child-preserved g c =
    let f = g.C.Agent.value in
    let xs = c.args.children.now in
    let k = c.loop-child.child-index in
    let rest = held_below (map f (drop (k + 1) xs)) in
    ap (λ h. or_each h rest) c.mark_held.ensures ∙ marked-next f k xs c.loop-child.held c.child-item.result c.loop-child-test.true c.child-item.is ∙ c.loop-child.invariant

pub returns : goal.returns
returns g c = sym (marked-end g.C.Agent.value c.loop-child.child-index c.args.children.now c.loop-child.held c.loop-child-test.false) ∙ c.loop-child.invariant
