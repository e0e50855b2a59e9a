use Rattle.std.proofs.Common.{◌≡◌, ◌*◌, ◌∙◌, arith}
use Rattle.std.proofs.lemmas.List.FromFn.{map-range_with_len_more}
use Rattle.rv_flat.specs.ItemWords.{words_of_item}
use Rattle.rv_flat.proofs.Lists.{part_from}
use Rattle.rv_flat.proofs.memory.cut_into_items.Goals as goal

pub loop-item-preserved : goal.loop-item-preserved
loop-item-preserved g c =
    let width = g.row.WORDS in
    let all = c.in_ok-push.ensures.items in
    let here : c.copy_from_slice.new.self ≡ words_of_item width c.args.words.now c.loop-item.item = c.copy_from_slice.ensures.after ∙ part_from c.args.words.now (c.loop-item.item * width) width in
    let before = c.loop-item.invariant in
    rw (map-range_with_len_more (words_of_item width c.args.words.now) 0 c.loop-item.item c.loop-item.item (omega arith)) (cc (all, here, before))
