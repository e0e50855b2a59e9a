use Rattle.std.proofs.Common.{rules, ◌≡◌, None, Some, sym, ◌∙◌, ap}
use Rattle.attraction_mem.specs.Memory.{entry_of}
use Rattle.attraction_mem.specs.Marks.{is_marked}
use Rattle.attraction_mem.specs.Places.{entry_at}
use Rattle.attraction_mem.proofs.Marked.{unmarked_absent}
use Rattle.attraction_mem.proofs.Standing.{entry_of_absent, entry_of_found}
use Rattle.attraction_mem.proofs.memory.AttractionMem.find.Goals as goal

pub returns-then-not-is_marked-clause-value : goal.returns-then-not-is_marked-clause-value
returns-then-not-is_marked-clause-value g c =
    let marks = c.deref.ensures.value in
    let not = ap (is_marked c.self.inside.sets c.args.item) (sym marks) ∙ sym c.is_marked.ensures ∙ c.if-not-is_marked.true in
    let absent : entry_of c.args.self.now c.args.item ≡ None = ap (λ m. entry_of m c.args.item) (sym c.self.view_is) ∙ unmarked_absent g.row.WAYS c.self.inside.sets c.self.inside.tags.items c.self.inside.words.items c.self.inside.marks.items c.args.item c.self.invariant.1 not in
    rw absent (search rules)

pub returns-in_err-place-clause-value : goal.returns-in_err-place-clause-value
returns-in_err-place-clause-value g c =
    let none = rw c.deref-2.ensures.value at c.in_err-place.ensures.absent in
    let absent : entry_of c.args.self.now c.args.item ≡ None = ap (λ m. entry_of m c.args.item) (sym c.self.view_is) ∙ entry_of_absent c.self.invariant.0 c.args.item none in
    rw absent (search rules)

pub returns-clause-value : goal.returns-clause-value
returns-clause-value g c =
    let tag = rw c.deref-2.ensures.value at c.in_ok-place.ensures.found in
    let found : entry_of c.args.self.now c.args.item ≡ Some (entry_at g.row.WAYS c.self.inside.words.items c.in_ok-place.place c.in_ok-place.state) = ap (λ m. entry_of m c.args.item) (sym c.self.view_is) ∙ entry_of_found c.self.invariant.0 c.in_ok-place.place c.args.item c.in_ok-place.state tag in
    rw found (search rules)
