use Rattle.std.proofs.Common.{IsSome, subst, sym, ◌∙◌, ap}
use Rattle.attraction_mem.specs.Memory.{entry_of, with_words}
use Rattle.attraction_mem.proofs.Reading.{is_found}
use Rattle.attraction_mem.proofs.Writing.{reworded_is}
use Rattle.attraction_mem.proofs.memory.AttractionMem.set_words.Goals as goal

pub unwrap-place-requires : goal.unwrap-place-requires
unwrap-place-requires g c =
    is_found c.self.invariant.0 c.args.item c.find_tag.result (rw c.deref.ensures.value at c.find_tag.ensures.absent) (subst (λ m. IsSome (entry_of m c.args.item)) (sym c.self.view_is) c.requires)

pub returns : goal.returns
returns g c =
    let tag = rw (c.unwrap-place.ensures, c.deref.ensures.value) at c.find_tag.ensures.found in
    let inside = rw (c.unwrap-place.ensures, c.deref.ensures.value) at c.find_tag.ensures.exists in
    reworded_is c.self.invariant.0 c.args.item c.unwrap-place.result.0 c.unwrap-place.result.1 tag inside c.args.words ∙ ap (λ m. with_words m c.args.item c.args.words) c.self.view_is
