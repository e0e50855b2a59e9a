use Rattle.std.proofs.Common.{rules, ◌≡◌, ℕ, ◌+◌, ◌*◌, ◌<◌, length, get_or, None, Some, subst, sym, ◌∙◌, arith, ◌↔◌}
use Rattle.std.proofs.lemmas.List.{get_or_default}
use Rattle.attraction_mem.specs.Memory.{StandsIn}
use Rattle.attraction_mem.proofs.Sizes.{row_fits}
use Rattle.attraction_mem.proofs.Reading.{none_at, item_at, sets_seen}
use Rattle.attraction_mem.proofs.memory.AttractionMem.at.Goals as goal

pub index-requires : goal.index-requires
index-requires g c =
    omega (arith, row_fits c.args.set c.self.inside.sets g.row.WAYS (rw (sets_seen g.row.WAYS c.self.inside.sets c.self.inside.tags.items c.self.inside.words.items c.self.view_is) at c.requires.set), c.self.invariant.0.sized.count, c.self.inside.tags.ok.0)

pub returns-in_err-item : goal.returns-in_err-item
returns-in_err-item g c =
    let p = c.args.set * g.row.WAYS + c.args.way in
    let within : p < length c.self.inside.tags.items = omega (arith, row_fits c.args.set c.self.inside.sets g.row.WAYS (rw (sets_seen g.row.WAYS c.self.inside.sets c.self.inside.tags.items c.self.inside.words.items c.self.view_is) at c.requires.set), c.self.invariant.0.sized.count) in
    let read : get_or c.self.inside.tags.items p None ≡ c.index.result.now = sym (c.index.ensures ∙ get_or_default c.self.inside.tags.items p c.index.result.now None within) in
    let free : c.index.result.now ≡ None = search rules in
    let none : c.from_residual.result ≡ None = search rules in
    subst (λ m. (item : ℕ) → (c.from_residual.result ≡ Some item) ↔ StandsIn m c.args.set c.args.way item) c.self.view_is (none_at c.self.invariant.0 c.args.set c.args.way c.requires.way (read ∙ free) c.from_residual.result none)

pub returns : goal.returns
returns g c =
    let p = c.args.set * g.row.WAYS + c.args.way in
    let within : p < length c.self.inside.tags.items = omega (arith, row_fits c.args.set c.self.inside.sets g.row.WAYS (rw (sets_seen g.row.WAYS c.self.inside.sets c.self.inside.tags.items c.self.inside.words.items c.self.view_is) at c.requires.set), c.self.invariant.0.sized.count) in
    let read : get_or c.self.inside.tags.items p None ≡ c.index.result.now = sym (c.index.ensures ∙ get_or_default c.self.inside.tags.items p c.index.result.now None within) in
    let tag : c.index.result.now ≡ Some (c.in_ok-item.item, c.in_ok-item.field-0-1) = search rules in
    subst (λ m. (item : ℕ) → (Some c.in_ok-item.item ≡ Some item) ↔ StandsIn m c.args.set c.args.way item) c.self.view_is (item_at c.self.invariant.0 c.args.set c.args.way c.in_ok-item.item c.in_ok-item.field-0-1 c.requires.way (read ∙ tag))
