use Rattle.std.proofs.Common.{◌≡◌, ◌∙◌, ap, subst, sym, map, rules}
use Rattle.std.specs.List.{All}
use Rattle.std.proofs.Math.ListN.{replicate}
use Rattle.std.proofs.lemmas.List.Elements.{All-replicate}
use Rattle.directory.specs.Packed.{IsPacked, unpacked_item}
use Rattle.directory.proofs.ItemWords.{map-replicate}
use Rattle.directory.proofs.table.ItemTable.new.Goals as goal

pub invariant_of-result : goal.invariant_of-result
invariant_of-result c =
    let same : c.in_ok-words.words.items ≡ replicate c.args.items c.word.result = search rules in
    subst (All IsPacked) (sym same) (All-replicate IsPacked c.args.items c.word.result c.word.ensures.packed)

pub returns : goal.returns
returns c =
    let same : c.in_ok-words.words.items ≡ replicate c.args.items c.word.result = search rules in
    ap (map unpacked_item) same
    ∙ map-replicate unpacked_item c.args.items c.word.result
    ∙ ap (replicate c.args.items) (c.word.ensures.value ∙ c.new-blank.ensures)
