use Rattle.std.proofs.Common.{◌≡◌, ◌∙◌, ap, sym, map, length, rules}
use Rattle.std.proofs.Math.ListN.{replicate}
use Rattle.std.proofs.lemmas.List.{length-map}
use Rattle.directory.specs.TreeModel.State.Values.{absent_item}
use Rattle.directory.specs.Packed.{unpacked_item}
use Rattle.directory.proofs.ItemWords.{map-replicate}
use Rattle.directory.proofs.table.ItemTable.clear.Goals as goal

pub returns : goal.returns
returns c =
    let same : c.fill.new.self.items ≡ replicate (length c.self.inside.words.items) c.word.result = search rules in
    let many : length c.self.inside.words.items ≡ length c.args.self.now = sym (length-map c.self.inside.words.items unpacked_item) ∙ ap length c.self.view_is in
    ap (map unpacked_item) same
    ∙ map-replicate unpacked_item (length c.self.inside.words.items) c.word.result
    ∙ ap (replicate (length c.self.inside.words.items)) (c.word.ensures.value ∙ c.new-blank.ensures)
    ∙ ap (λ n. replicate n (record absent_item { hold = c.args.hold })) many
