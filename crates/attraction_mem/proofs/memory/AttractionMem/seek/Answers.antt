use Rattle.std.proofs.Common.{sym, ◌∙◌, ap}
use Rattle.attraction_mem.specs.Marks.{is_marked}
use Rattle.attraction_mem.proofs.Marked.{unmarked_absent}
use Rattle.attraction_mem.proofs.Standing.{sought, sought_none}
use Rattle.attraction_mem.proofs.memory.AttractionMem.seek.Goals as goal

pub returns-then-not-is_marked-clause-place : goal.returns-then-not-is_marked-clause-place
returns-then-not-is_marked-clause-place g c =
    let not = ap (is_marked c.self.inside.sets c.args.item) (sym c.deref.ensures.value) ∙ sym c.is_marked.ensures ∙ c.if-not-is_marked.true in
    let absent = unmarked_absent g.row.WAYS c.self.inside.sets c.self.inside.tags.items c.self.inside.words.items c.self.inside.marks.items c.args.item c.self.invariant.1 not in
    rw (← c.self.view_is) (sought_none c.self.invariant.0 c.args.item absent).0

pub returns-then-not-is_marked-clause-state : goal.returns-then-not-is_marked-clause-state
returns-then-not-is_marked-clause-state g c =
    let not = ap (is_marked c.self.inside.sets c.args.item) (sym c.deref.ensures.value) ∙ sym c.is_marked.ensures ∙ c.if-not-is_marked.true in
    let absent = unmarked_absent g.row.WAYS c.self.inside.sets c.self.inside.tags.items c.self.inside.words.items c.self.inside.marks.items c.args.item c.self.invariant.1 not in
    rw (← c.self.view_is) (sought_none c.self.invariant.0 c.args.item absent).1

pub returns-clause-place : goal.returns-clause-place
returns-clause-place g c =
    let has = rw c.deref-2.ensures.value at c.find_tag.ensures.found in
    let none = rw c.deref-2.ensures.value at c.find_tag.ensures.absent in
    rw (← c.self.view_is) (sought c.self.invariant.0 c.args.item c.find_tag.result has none).0

pub returns-clause-state : goal.returns-clause-state
returns-clause-state g c =
    let has = rw c.deref-2.ensures.value at c.find_tag.ensures.found in
    let none = rw c.deref-2.ensures.value at c.find_tag.ensures.absent in
    rw (← c.self.view_is) (sought c.self.invariant.0 c.args.item c.find_tag.result has none).1
