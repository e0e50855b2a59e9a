use Rattle.std.proofs.Common.{◌≡◌, ◌∙◌, None, arith, refl, ◌+◌, ◌-◌, sym, ap}
use Rattle.std.proofs.lemmas.Bool.{false≢true}
use Rattle.std.proofs.lemmas.Option.{slice_get_within}
use Rattle.std.specs.Prelude.{slice_get}
use Rattle.tree_config.specs.Levels.{widths_of}
use Rattle.tree_config.proofs.Counts.{slice_get-none, width_at}
use Rattle.tree_config.proofs.Widths.{width_found, width_past, widths_from, widths_from-end}
use Rattle.tree_config.proofs.shape.Shape.children.Goals as goal

pub returns-then-index-len-clause-children : goal.returns-then-index-len-clause-children
returns-then-index-len-clause-children c =
    let found = width_found c.deref-level-items.result.now c.loop-level.level-index c.level-item.result c.loop-level-test.true c.level-item.is c.loop-level.index c.index.result.now (rw c.len.ensures at c.if-index-len.true) c.index.ensures in
    rw (← c.self.view_is, ← c.bus.view_is) (rw c.deref-level-items.ensures.value at (sym found ∙ sym c.loop-level.invariant))

pub loop-level-preserved : goal.loop-level-preserved
loop-level-preserved c =
    let past = width_past c.deref-level-items.result.now c.loop-level.level-index c.level-item.result c.loop-level-test.true c.level-item.is c.loop-level.index (rw c.len.ensures at c.if-index-len.false) in
    c.loop-level.invariant ∙ past ∙ ap (λ n. slice_get (widths_from c.deref-level-items.result.now (c.loop-level.level-index + 1)) (c.loop-level.index - n)) (sym c.len-index.ensures)

pub returns-then-index-len-clause-none : goal.returns-then-index-len-clause-none
returns-then-index-len-clause-none c =
    let within = slice_get_within (widths_of c.args.self.now) c.args.bus c.index.result.now (sym (returns-then-index-len-clause-children c)) in
    (λ h. absurd (false≢true (sym h)), λ past. absurd (omega (arith, past, within)))

pub returns-then-index-len-clause-width : goal.returns-then-index-len-clause-width
returns-then-index-len-clause-width c =
    width_at (widths_of c.args.self.now) c.args.bus c.index.result.now (rw c.self.view_is at c.self.invariant.widths) (sym (returns-then-index-len-clause-children c))

pub returns-clause-none : goal.returns-clause-none
returns-clause-none c =
    let levels = c.deref-level-items.result.now in
    let left = c.loop-level.invariant ∙ ap (λ ws. slice_get ws c.loop-level.index) (widths_from-end levels c.loop-level.level-index c.loop-level-test.false) in
    let none : slice_get (widths_of c.args.self.now) c.args.bus ≡ None = rw (← c.self.view_is, ← c.bus.view_is) (rw c.deref-level-items.ensures.value at left) in
    (λ _. slice_get-none (widths_of c.args.self.now) c.args.bus none, λ _. refl)
