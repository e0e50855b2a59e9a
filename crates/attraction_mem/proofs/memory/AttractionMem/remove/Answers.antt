use Rattle.std.proofs.Common.{rules, ◌≡◌, ◌<◌, length, [], None, Some, sym, ◌∙◌, ap, arith}
use Rattle.std.proofs.lemmas.List.{get_or_default}
use Rattle.attraction_mem.specs.Memory.{entry_of, without_entry}
use Rattle.attraction_mem.specs.Places.{entry_at}
use Rattle.attraction_mem.proofs.Changing.{without_absent}
use Rattle.attraction_mem.proofs.Holding.{written-set}
use Rattle.attraction_mem.proofs.Marked.{removed_marked}
use Rattle.attraction_mem.proofs.Standing.{entry_of_absent, entry_of_found}
use Rattle.attraction_mem.proofs.Writing.{removed_kept, removed_is}
use Rattle.attraction_mem.proofs.memory.AttractionMem.remove.Goals as goal

pub returns-in_err-place-clause-value : goal.returns-in_err-place-clause-value
returns-in_err-place-clause-value g c =
    let none = rw c.deref.ensures.value at c.in_err-place.ensures.absent in
    let absent : entry_of c.args.self.now c.args.item ≡ None = ap (λ m. entry_of m c.args.item) (sym c.self.view_is) ∙ entry_of_absent c.self.invariant.0 c.args.item none in
    rw absent (search rules)

pub returns-in_err-place-clause-removed : goal.returns-in_err-place-clause-removed
returns-in_err-place-clause-removed g c =
    let none = rw c.deref.ensures.value at c.in_err-place.ensures.absent in
    let absent : entry_of c.args.self.now c.args.item ≡ None = ap (λ m. entry_of m c.args.item) (sym c.self.view_is) ∙ entry_of_absent c.self.invariant.0 c.args.item none in
    sym (without_absent c.args.self.now c.args.item absent)

pub invariant_of-self : goal.invariant_of-self
invariant_of-self g c =
    let tag = rw c.deref.ensures.value at c.in_ok-place.ensures.found in
    let inside = rw c.deref.ensures.value at c.in_ok-place.ensures.exists in (
      removed_kept c.self.invariant.0 c.args.item c.in_ok-place.place c.in_ok-place.state tag inside,
      removed_marked c.self.inside.sets c.self.inside.tags.items _ c.self.inside.marks.items c.in_ok-place.place c.self.invariant.1 (written-set None c.self.inside.tags.items c.in_ok-place.place None inside),
    )

pub returns-clause-value : goal.returns-clause-value
returns-clause-value g c =
    let tag = rw c.deref.ensures.value at c.in_ok-place.ensures.found in
    let found : entry_of c.args.self.now c.args.item ≡ Some (entry_at g.row.WAYS c.self.inside.words.items c.in_ok-place.place c.in_ok-place.state) = ap (λ m. entry_of m c.args.item) (sym c.self.view_is) ∙ entry_of_found c.self.invariant.0 c.in_ok-place.place c.args.item c.in_ok-place.state tag in
    let within : c.in_ok-place.place < length c.self.inside.words.items = omega (arith, c.self.invariant.0.word_places, rw c.deref.ensures.value at c.in_ok-place.ensures.exists) in
    rw found (ap (λ w. Some (c.in_ok-place.state, w)) (c.index.ensures ∙ get_or_default c.self.inside.words.items c.in_ok-place.place c.index.result.now [] within))

pub returns-clause-removed : goal.returns-clause-removed
returns-clause-removed g c =
    let tag = rw c.deref.ensures.value at c.in_ok-place.ensures.found in
    let inside = rw c.deref.ensures.value at c.in_ok-place.ensures.exists in
    removed_is c.self.invariant.0 c.args.item c.in_ok-place.place c.in_ok-place.state tag inside ∙ ap (λ m. without_entry m c.args.item) c.self.view_is
