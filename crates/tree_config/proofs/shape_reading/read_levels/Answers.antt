use Rattle.std.proofs.Common.{◌∙◌, sym, ap, inr}
use Rattle.tree_config.specs.Lists.{lists_of}
use Rattle.tree_config.proofs.ShapeReading.{IsShape-accepted, levels_in-accepted, levels_in-crowded, levels_in-deep, levels_in-uneven, levels_in-wide}
use Rattle.tree_config.proofs.shape_reading.read_levels.Goals as goal

pub returns-then-has_other_depth-clause-refused : goal.returns-then-has_other_depth-clause-refused
returns-then-has_other_depth-clause-refused c =
    inr (levels_in-uneven c.args.text.now c.requires.shape c.first_depth-depth.result c.first_depth-depth.ensures (sym c.has_other_depth.ensures ∙ c.if-has_other_depth.true))

pub returns-then-depth-gt-MOST_DEPTH-clause-refused : goal.returns-then-depth-gt-MOST_DEPTH-clause-refused
returns-then-depth-gt-MOST_DEPTH-clause-refused c =
    inr (levels_in-deep c.args.text.now c.requires.shape c.first_depth-depth.result c.first_depth-depth.ensures (sym c.has_other_depth.ensures ∙ c.if-has_other_depth.false) c.if-depth-gt-MOST_DEPTH.true)

pub returns-then-is_any_wide-clause-refused : goal.returns-then-is_any_wide-clause-refused
returns-then-is_any_wide-clause-refused c =
    inr (levels_in-wide c.args.text.now c.requires.shape c.first_depth-depth.result c.first_depth-depth.ensures (sym c.has_other_depth.ensures ∙ c.if-has_other_depth.false) c.if-depth-gt-MOST_DEPTH.false
    (lists_of c.deref.result.now) (ap lists_of c.deref.ensures.value ∙ c.in_ok-levels.ensures) (sym c.is_any_wide.ensures ∙ c.if-is_any_wide.true))

pub returns-then-has_too_many_leaves-clause-refused : goal.returns-then-has_too_many_leaves-clause-refused
returns-then-has_too_many_leaves-clause-refused c =
    inr (levels_in-crowded c.args.text.now c.requires.shape c.first_depth-depth.result c.first_depth-depth.ensures (sym c.has_other_depth.ensures ∙ c.if-has_other_depth.false) c.if-depth-gt-MOST_DEPTH.false
    (lists_of c.in_ok-levels.levels.items) c.in_ok-levels.ensures (rw c.deref.ensures.value at (sym c.is_any_wide.ensures ∙ c.if-is_any_wide.false)) (rw c.deref-2.ensures.value at (sym c.has_too_many_leaves.ensures ∙ c.if-has_too_many_leaves.true)))

pub invariant_of-result : goal.invariant_of-result
invariant_of-result c =
    IsShape-accepted c.args.text.now c.requires.shape c.first_depth-depth.result c.first_depth-depth.ensures (sym c.has_other_depth.ensures ∙ c.if-has_other_depth.false) c.if-depth-gt-MOST_DEPTH.false
    (lists_of c.in_ok-levels.levels.items) c.in_ok-levels.ensures (rw c.deref.ensures.value at (sym c.is_any_wide.ensures ∙ c.if-is_any_wide.false)) (rw c.deref-2.ensures.value at (sym c.has_too_many_leaves.ensures ∙ c.if-has_too_many_leaves.false))

pub returns-clause-shape : goal.returns-clause-shape
returns-clause-shape c =
    levels_in-accepted c.args.text.now c.requires.shape c.first_depth-depth.result c.first_depth-depth.ensures (sym c.has_other_depth.ensures ∙ c.if-has_other_depth.false) c.if-depth-gt-MOST_DEPTH.false
    (lists_of c.in_ok-levels.levels.items) c.in_ok-levels.ensures (rw c.deref.ensures.value at (sym c.is_any_wide.ensures ∙ c.if-is_any_wide.false)) (rw c.deref-2.ensures.value at (sym c.has_too_many_leaves.ensures ∙ c.if-has_too_many_leaves.false))
