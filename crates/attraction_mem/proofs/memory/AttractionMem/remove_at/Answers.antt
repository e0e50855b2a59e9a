use Rattle.std.proofs.Common.{None, ◌∙◌, ap, arith}
use Rattle.attraction_mem.specs.Memory.{place_of, without_entry}
use Rattle.attraction_mem.proofs.Holding.{written-set}
use Rattle.attraction_mem.proofs.Marked.{removed_marked}
use Rattle.attraction_mem.proofs.Standing.{tag_at, tag_inside}
use Rattle.attraction_mem.proofs.Writing.{removed_kept, removed_is}
use Rattle.attraction_mem.proofs.memory.AttractionMem.remove_at.Goals as goal

pub index_mut-requires : goal.index_mut-requires
index_mut-requires g c =
    let tag = tag_at c.self.invariant.0 c.args.at c.args._item (ap (λ m. place_of g.row.WAYS m c.args._item) c.self.view_is ∙ c.requires) in
    let inside = tag_inside c.self.inside.tags.items c.args.at c.args._item tag.0 tag.1 in
    omega (arith, inside, c.self.inside.tags.ok.0)

pub invariant_of-self : goal.invariant_of-self
invariant_of-self g c =
    let tag = tag_at c.self.invariant.0 c.args.at c.args._item (ap (λ m. place_of g.row.WAYS m c.args._item) c.self.view_is ∙ c.requires) in
    let inside = tag_inside c.self.inside.tags.items c.args.at c.args._item tag.0 tag.1 in (
      removed_kept c.self.invariant.0 c.args._item c.args.at tag.0 tag.1 inside,
      removed_marked c.self.inside.sets c.self.inside.tags.items _ c.self.inside.marks.items c.args.at c.self.invariant.1 (written-set None c.self.inside.tags.items c.args.at None inside),
    )

pub returns : goal.returns
returns g c =
    let tag = tag_at c.self.invariant.0 c.args.at c.args._item (ap (λ m. place_of g.row.WAYS m c.args._item) c.self.view_is ∙ c.requires) in
    let inside = tag_inside c.self.inside.tags.items c.args.at c.args._item tag.0 tag.1 in
    removed_is c.self.invariant.0 c.args._item c.args.at tag.0 tag.1 inside ∙ ap (λ m. without_entry m c.args._item) c.self.view_is
