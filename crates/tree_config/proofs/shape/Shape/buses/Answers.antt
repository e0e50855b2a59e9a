use Rattle.std.proofs.Common.{◌≤◌, length, arith}
use Rattle.tree_config.proofs.Counts.{IsShape-buses}
use Rattle.tree_config.proofs.Widths.{level_counted, widths_from}
use Rattle.tree_config.proofs.shape.Shape.buses.Goals as goal

pub overflow_cast-buses : goal.overflow_cast-buses
overflow_cast-buses c =
    let all : length (widths_from c.deref-level-items.result.now 0) ≤ 256 = rw c.deref-level-items.ensures.value (IsShape-buses _ c.self.invariant) in
    let counted = level_counted c.deref-level-items.result.now c.loop-level.level-index c.level-item.result c.loop-level-test.true c.level-item.is in
    omega (arith, all, counted, c.len.ensures, c.loop-level.invariant)

pub overflow_add-buses : goal.overflow_add-buses
overflow_add-buses c =
    let all : length (widths_from c.deref-level-items.result.now 0) ≤ 256 = rw c.deref-level-items.ensures.value (IsShape-buses _ c.self.invariant) in
    let counted = level_counted c.deref-level-items.result.now c.loop-level.level-index c.level-item.result c.loop-level-test.true c.level-item.is in
    omega (arith, all, counted, c.len.ensures, c.loop-level.invariant)

pub returns-clause-few : goal.returns-clause-few
returns-clause-few c =
    let all : length (widths_from c.deref-level-items.result.now 0) ≤ 256 = rw c.deref-level-items.ensures.value (IsShape-buses _ c.self.invariant) in
    omega (arith, all, c.loop-level.invariant)
