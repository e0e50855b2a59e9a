use Rattle.std.proofs.Common.{ℕ, ◌/◌, List, length, sym, ap, ◌∙◌}
use Rattle.witness_check.specs.DdmTypes.ItemTable.{ItemTable}
use Rattle.witness_check.specs.FlatModel.Flat.{flat_start}
use Rattle.witness_check.specs.TreeModel.Start.Sources.{ImageValue, SegmentValue}
use Rattle.witness_check.specs.TreeModel.Start.Memory.{start_code}
use Rattle.start_memory.specs.Memory.{memory_items, memory_words}
use Rattle.witness_check.proofs.FlatWords.{all_words, items_size, length-all, words_are}
use Rattle.witness_check.proofs.Steps.{view_is}
use Rattle.witness_check.proofs.judge.Judge.new.Goals as goal

pub new-requires-clause-items : goal.new-requires-clause-items
new-requires-clause-items c = ap (λ (t : ItemTable). t.size) c.in_ok-items.ensures.items ∙ items_size c.args.start c.args.item_bytes c.args.image.now.segments

pub new-requires-clause-words : goal.new-requires-clause-words
new-requires-clause-words c = length-all (c.args.item_bytes / 4) c.deref.result.now c.in_ok-items.items.rows ∙ ap (λ (ws : List ℕ). length ws) (sym c.in_ok-words.ensures)

pub returns-clause-made : goal.returns-clause-made
returns-clause-made c =
    let start = c.args.start in
    let size = c.args.item_bytes in
    let image = c.args.image.now in
    let segments = c.deref.ensures.value ∙ ap (λ (i : ImageValue). i.segments) c.image.view_is in
    let words = c.in_ok-words.ensures ∙ ap (λ (ss : List SegmentValue). all_words (size / 4) ss c.in_ok-items.items.rows) segments in
    view_is c.in_ok-code.code (start_code image) c.in_ok-items.items (memory_items start size image.segments) c.in_ok-machine.machine.machine (flat_start start (memory_words start size image.segments))
    c.in_ok-code.ensures c.in_ok-items.ensures.items
    (c.in_ok-machine.ensures.machine ∙ ap (λ ws. flat_start start ws) (words_are start size image.segments c.in_ok-items.items c.in_ok-words.words.items c.in_ok-items.ensures.items words))
