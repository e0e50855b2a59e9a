use Rattle.std.proofs.Common.{◌≡◌, ◌<◌, false, length, map, replicate, sym, ap, ◌∙◌, arith}
use Rattle.std.proofs.lemmas.List.{length-map, length-replicate}
use Rattle.ddm_tree.specs.TreeModel.Start.Nodes.{held_below, or_each}
use Rattle.ddm_tree.proofs.Gathered.{below-length}
use Rattle.ddm_tree.proofs.Marked.{each-blank}
use Rattle.ddm_tree.proofs.TurnMade.{items-back}
use Rattle.ddm_tree.proofs.over.held_items.Goals as goal

pub mark_children-requires : goal.mark_children-requires
mark_children-requires g c =
    let blank : c.in_ok-held.held.items ≡ replicate c.args.items false = c.in_ok-held.ensures.items_if_clones_equal (λ x is. is) in
    let size : length c.deref_mut.result.now ≡ c.args.items = ap length (c.deref_mut.ensures.value ∙ blank) ∙ length-replicate c.args.items false in
    record { few = omega (arith, size, c.ranges.items.fits); whole = λ k d inside. (c.requires.holders k d inside).count ∙ sym size }

pub returns : goal.returns
returns g c =
    let blank : c.in_ok-held.held.items ≡ replicate c.args.items false = c.in_ok-held.ensures.items_if_clones_equal (λ x is. is) in
    let ks = map g.C.Agent.value c.args.children.now in
    let some : 0 < length ks = omega (arith, c.requires.some, length-map c.args.children.now g.C.Agent.value) in
    let whole : c.in_ok-held.held.len ≡ length c.in_ok-held.held.items = sym c.deref_mut.ensures.len ∙ ap length c.deref_mut.ensures.value in
    let back = items-back c.in_ok-held.held.items c.mark_children.new.held c.in_ok-held.held.len whole (c.mark_children.auto.held ∙ ap length c.deref_mut.ensures.value) in
    let marks = ap (λ h. or_each h (held_below ks)) (c.deref_mut.ensures.value ∙ blank) ∙ each-blank c.args.items (held_below ks) (below-length c.args.items ks c.requires.holders some) in
    back ∙ c.mark_children.ensures ∙ marks
