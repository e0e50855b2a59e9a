use Rattle.std.proofs.Common.{◌≡◌, ◌+◌, None, length, map, drop, refl, sym, ap, ◌∙◌}
use Rattle.std.specs.Prelude.{is_some}
use Rattle.std.proofs.lemmas.List.{get_or_default}
use Rattle.leaf_protocol.specs.TreeModel.Start.Nodes.{or_each}
use Rattle.leaf_protocol.specs.Entries.{ways_of}
use Rattle.leaf_protocol.proofs.Marking.{marked_by, marked-end, marked-next, tags-mark}
use Rattle.leaf_protocol.proofs.entries.Entries.mark_held.Goals as goal

pub loop-tag-init : goal.loop-tag-init
loop-tag-init g c = refl

pub loop-tag-preserved : goal.loop-tag-preserved
loop-tag-preserved g c =
    let tags = c.tags-tags.result.now in
    let k = c.loop-tag.tag-index in
    let is = c.tag-item.is ∙ get_or_default tags k c.tag-item.result None c.loop-tag-test.true in
    ap (marked_by (drop (k + 1) tags)) c.mark_tag.ensures ∙ marked-next k tags c.tag-item.result c.loop-tag.held c.loop-tag-test.true is ∙ c.loop-tag.invariant

pub returns : goal.returns
returns g c =
    let n = c.self.inside.items in
    let m = c.self.inside.memory in
    let ways : ways_of n m ≡ c.args.self.now.ways = ap (λ e. e.ways) c.self.view_is in
    let whole : length c.args.held.now ≡ length (ways_of n m) = c.requires ∙ ap length (sym ways) in
    let all = tags-mark g.row.WAYS n m c.tags-tags.result.now c.self.invariant.some_ways c.tags-tags.ensures.standing c.tags-tags.ensures.inside c.args.held.now whole in
    sym (marked-end c.loop-tag.tag-index c.tags-tags.result.now c.loop-tag.held c.loop-tag-test.false) ∙ c.loop-tag.invariant ∙ all ∙ ap (λ ws. or_each c.args.held.now (map is_some ws)) ways
