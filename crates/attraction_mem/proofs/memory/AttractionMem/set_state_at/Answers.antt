use Rattle.std.proofs.Common.{None, Some, ◌∙◌, ap, arith}
use Rattle.attraction_mem.specs.Memory.{place_of, with_state}
use Rattle.attraction_mem.proofs.Holding.{written-set}
use Rattle.attraction_mem.proofs.Marked.{restated_marked}
use Rattle.attraction_mem.proofs.Standing.{tag_at, tag_inside}
use Rattle.attraction_mem.proofs.Writing.{restated_kept, restated_is}
use Rattle.attraction_mem.proofs.memory.AttractionMem.set_state_at.Goals as goal

pub index_mut-requires : goal.index_mut-requires
index_mut-requires g c =
    let tag = tag_at c.self.invariant.0 c.args.place c.args.item (ap (λ m. place_of g.row.WAYS m c.args.item) c.self.view_is ∙ c.requires) in
    let inside = tag_inside c.self.inside.tags.items c.args.place c.args.item tag.0 tag.1 in
    omega (arith, inside, c.self.inside.tags.ok.0)

pub invariant_of-self : goal.invariant_of-self
invariant_of-self g c =
    let tag = tag_at c.self.invariant.0 c.args.place c.args.item (ap (λ m. place_of g.row.WAYS m c.args.item) c.self.view_is ∙ c.requires) in
    let inside = tag_inside c.self.inside.tags.items c.args.place c.args.item tag.0 tag.1 in (
      restated_kept c.self.invariant.0 c.args.item c.args.place tag.0 tag.1 inside c.args.state,
      restated_marked c.self.inside.sets c.self.inside.tags.items _ c.self.inside.marks.items c.args.item c.args.place tag.0 c.args.state tag.1 c.self.invariant.1 (written-set None c.self.inside.tags.items c.args.place (Some (c.args.item, c.args.state)) inside),
    )

pub returns : goal.returns
returns g c =
    let tag = tag_at c.self.invariant.0 c.args.place c.args.item (ap (λ m. place_of g.row.WAYS m c.args.item) c.self.view_is ∙ c.requires) in
    let inside = tag_inside c.self.inside.tags.items c.args.place c.args.item tag.0 tag.1 in
    restated_is c.self.invariant.0 c.args.item c.args.place tag.0 tag.1 inside c.args.state ∙ ap (λ m. with_state m c.args.item c.args.state) c.self.view_is
