use Rattle.std.proofs.Common.{◌≡◌, ◌-◌, ◌<◌, length, sym, ◌∙◌, arith, ap, sum, Some}
use Rattle.std.specs.Prelude.{slice_get}
use Rattle.std.proofs.lemmas.Option.{slice_get_within}
use Rattle.tree_config.specs.Lists.{lists_of}
use Rattle.tree_config.proofs.Counts.{IsShape-leaves, leaves_of-last}
use Rattle.tree_config.proofs.shape.Shape.harts.Goals as goal

pub returns-in-Some-clause-leaves : goal.returns-in-Some-clause-leaves
returns-in-Some-clause-leaves c =
    let levels = c.deref.result.now in
    let last : Some c.in-Some.level.now ≡ slice_get levels (length levels - 1) = c.in-Some.ensures.value in
    let within : length levels - 1 < length levels = slice_get_within levels (length levels - 1) c.in-Some.level.now (sym last) in
    let leaves = leaves_of-last levels (length levels - 1) c.in-Some.level.now (omega (arith, within)) last in
    rw (← c.self.view_is) (c.total.ensures ∙ ap sum c.deref-in-Some.ensures.value ∙ sym (rw c.deref.ensures.value at leaves))

pub returns-in-Some-clause-some : goal.returns-in-Some-clause-some
returns-in-Some-clause-some c = rw (returns-in-Some-clause-leaves c) (rw c.self.view_is at (IsShape-leaves (lists_of c.self.inside.levels.items) c.self.invariant))
