use Rattle.std.proofs.Common.{◌∙◌, ap, sym, set}
use Rattle.replacement.specs.TreeModel.State.Leaf.{buffer_item}
use Rattle.replacement.specs.Arrived.{with_words}
use Rattle.replacement.proofs.First.{first_changed, none_changed}
use Rattle.replacement.proofs.Once.{words_same}
use Rattle.replacement.proofs.Placed.{arrived}
use Rattle.replacement.proofs.buffer.set_words_of.Goals as goal

pub returns-in-Some : goal.returns-in-Some
returns-in-Some g c =
    let entries = c.args.entries.now in
    let written = ap (set entries.list c.in-Some.index) c.with_words.ensures in
    let changed = first_changed buffer_item (with_words c.args.item c.args.words.now) c.args.item (words_same c.args.item c.args.words.now) c.in-Some.index entries.list c.at-entry.result c.requires (sym c.in-Some.ensures.index) c.at-entry.ensures in
    c.set.ensures ∙ ap (λ l. arrived l entries.capacity) (written ∙ changed)

pub returns-in_default : goal.returns-in_default
returns-in_default g c =
    let entries = c.args.entries.now in
    let same = none_changed buffer_item (with_words c.args.item c.args.words.now) c.args.item (words_same c.args.item c.args.words.now) entries.list (sym c.in_default.ensures.index) in
    ap (λ l. arrived l entries.capacity) (sym same)
