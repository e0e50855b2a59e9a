use Rattle.std.proofs.Common.{IsSome, None, Some, subst, sym, ◌∙◌, ap}
use Rattle.attraction_mem.specs.Memory.{entry_of, with_state}
use Rattle.attraction_mem.proofs.Holding.{written-set}
use Rattle.attraction_mem.proofs.Marked.{restated_marked}
use Rattle.attraction_mem.proofs.Reading.{is_found}
use Rattle.attraction_mem.proofs.Writing.{restated_kept, restated_is}
use Rattle.attraction_mem.proofs.memory.AttractionMem.set_state.Goals as goal

pub unwrap-place-requires : goal.unwrap-place-requires
unwrap-place-requires g c =
    is_found c.self.invariant.0 c.args.item c.find_tag.result (rw c.deref.ensures.value at c.find_tag.ensures.absent) (subst (λ m. IsSome (entry_of m c.args.item)) (sym c.self.view_is) c.requires)

pub invariant_of-self : goal.invariant_of-self
invariant_of-self g c =
    let tag = rw (c.unwrap-place.ensures, c.deref.ensures.value) at c.find_tag.ensures.found in
    let inside = rw (c.unwrap-place.ensures, c.deref.ensures.value) at c.find_tag.ensures.exists in
    let p = c.unwrap-place.result.0 in (
      restated_kept c.self.invariant.0 c.args.item p c.unwrap-place.result.1 tag inside c.args.state,
      restated_marked c.self.inside.sets c.self.inside.tags.items _ c.self.inside.marks.items c.args.item p c.unwrap-place.result.1 c.args.state tag c.self.invariant.1 (written-set None c.self.inside.tags.items p (Some (c.args.item, c.args.state)) inside),
    )

pub returns : goal.returns
returns g c =
    let tag = rw (c.unwrap-place.ensures, c.deref.ensures.value) at c.find_tag.ensures.found in
    let inside = rw (c.unwrap-place.ensures, c.deref.ensures.value) at c.find_tag.ensures.exists in
    restated_is c.self.invariant.0 c.args.item c.unwrap-place.result.0 c.unwrap-place.result.1 tag inside c.args.state ∙ ap (λ m. with_state m c.args.item c.args.state) c.self.view_is
