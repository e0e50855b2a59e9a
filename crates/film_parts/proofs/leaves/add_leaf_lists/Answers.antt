use Rattle.std.proofs.Common.{◌≡◌, ◌∷◌, [], ◌++◌, drop, slice_index, sym, ap, ap₂, ◌∙◌}
use Rattle.film_parts.specs.StateWords.Numbers.{reserved_word, slot_words}
use Rattle.film_parts.specs.StateWords.Parts.{buffer_words, counted, item_and_words, standing}
use Rattle.film_parts.proofs.LeafWords.{behind_slot, four_told, leaf_cut, list_words, lists_of_leaf, reserved_is, slot_is, standing_wide}
use Rattle.film_parts.proofs.leaves.add_leaf_lists.Goals as goal

pub returns : goal.returns
returns c = λ v most number words form.
    let w0 = c.args.words.now in
    let cut = words ∙ leaf_cut v in
    let w2 : c.next-kind.new.self ≡ drop 1 (drop 1 w0) = c.next-kind.ensures.left ∙ ap (drop 1) c.next-reserved.ensures.left in
    let w3 : c.next-item.new.self ≡ list_words v = c.next-item.ensures.left ∙ ap (drop 1) w2 ∙ behind_slot w0 (list_words v) (reserved_word v.reservation) v.slot cut in
    let asked : c.next-kind.result ∷ c.next-item.result ∷ [] ≡ slot_words v.slot =
    ap₂ (λ a b. a ∷ b ∷ []) (c.next-kind.ensures.word ∙ ap (λ w. slice_index w 0) c.next-reserved.ensures.left) (c.next-item.ensures.word ∙ ap (λ w. slice_index w 0) w2)
    ∙ slot_is w0 (list_words v) (reserved_word v.reservation) v.slot cut
    in
    let w4 =
    c.skip_standing.ensures (standing v.sizes.sets v.ways v.sizes.way_count) (counted buffer_words v.buffer ++ (counted item_and_words v.replies ++ [])) w3
    (standing_wide c.args.width v.sizes.sets v.ways v.sizes.way_count form.ways)
    in
    let buffer = c.in_ok-add_buffer.ensures v.buffer (counted item_and_words v.replies ++ []) w4 form.buffer in
    let slot = c.in_ok-add_slot.ensures v.slot asked form.slot in
    let replies = c.in_ok-add_leaf_replies.ensures v.replies [] buffer.left form.replies in
    let reserved = c.in_ok-add_reserved.ensures v.reservation (c.next-reserved.ensures.word ∙ reserved_is w0 (list_words v) (reserved_word v.reservation) v.slot cut) in
    lists_of_leaf _ _ v _ (number ∙ sym c.leaf.view_is) (four_told _ _ _ _ _ _ _ _ _ buffer.told slot replies.told reserved)
