use Rattle.std.proofs.Common.{◌≡◌, ◌<◌, length, [], Some, sym, ◌∙◌, ap, arith}
use Rattle.std.proofs.lemmas.List.{get_or_default}
use Rattle.attraction_mem.specs.Memory.{entry_of, place_of}
use Rattle.attraction_mem.specs.Places.{entry_at}
use Rattle.attraction_mem.proofs.Standing.{entry_of_found, tag_at, tag_inside}
use Rattle.attraction_mem.proofs.memory.AttractionMem.words_at.Goals as goal

pub index-requires : goal.index-requires
index-requires g c =
    let tag = tag_at c.self.invariant.0 c.args.place c.args._item (ap (λ m. place_of g.row.WAYS m c.args._item) c.self.view_is ∙ c.requires) in
    let inside = tag_inside c.self.inside.tags.items c.args.place c.args._item tag.0 tag.1 in
    omega (arith, inside, c.self.invariant.0.word_places, c.self.inside.words.ok.0)

pub returns : goal.returns
returns g c =
    let tag = tag_at c.self.invariant.0 c.args.place c.args._item (ap (λ m. place_of g.row.WAYS m c.args._item) c.self.view_is ∙ c.requires) in
    let inside = tag_inside c.self.inside.tags.items c.args.place c.args._item tag.0 tag.1 in
    let found : entry_of c.args.self.now c.args._item ≡ Some (entry_at g.row.WAYS c.self.inside.words.items c.args.place tag.0) = ap (λ m. entry_of m c.args._item) (sym c.self.view_is) ∙ entry_of_found c.self.invariant.0 c.args.place c.args._item tag.0 tag.1 in
    let within : c.args.place < length c.self.inside.words.items = omega (arith, c.self.invariant.0.word_places, inside) in
    rw found (ap Some (c.index.ensures ∙ get_or_default c.self.inside.words.items c.args.place c.index.result.now [] within))
