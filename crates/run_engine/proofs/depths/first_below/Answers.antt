use Rattle.std.proofs.Common.{◌≡◌, ◌+◌, length, Some, sym, ap, subst, ◌∙◌, arith}
use Rattle.std.specs.Prelude.{slice_get}
use Rattle.tree_config.specs.Levels.{IsShape}
use Rattle.run_engine.proofs.LevelNodes.{level-at, level-few}
use Rattle.run_engine.proofs.depths.first_below.Goals as goal

pub overflow_cast-result : goal.overflow_cast-result
overflow_cast-result c =
    let t = c.args.tree.now in
    let l = c.level.result.now in
    let shape : IsShape t.levels = subst (λ u. IsShape u.levels) c.tree.view_is c.level.ensures.shape in
    let is : Some l ≡ slice_get t.levels c.args.level = c.level.ensures.widths ∙ ap (λ u. slice_get u.levels c.args.level) c.tree.view_is in
    let few = level-few c.args.level t.levels l shape is in
    omega (arith, few)

pub overflow_add-result : goal.overflow_add-result
overflow_add-result c =
    let t = c.args.tree.now in
    let l = c.level.result.now in
    let shape : IsShape t.levels = subst (λ u. IsShape u.levels) c.tree.view_is c.level.ensures.shape in
    let is : Some l ≡ slice_get t.levels c.args.level = c.level.ensures.widths ∙ ap (λ u. slice_get u.levels c.args.level) c.tree.view_is in
    let few = level-few c.args.level t.levels l shape is in
    omega (arith, few, c.requires.few)

pub returns-clause-is : goal.returns-clause-is
returns-clause-is c =
    let t = c.args.tree.now in
    let l = c.level.result.now in
    let is : Some l ≡ slice_get t.levels c.args.level = c.level.ensures.widths ∙ ap (λ u. slice_get u.levels c.args.level) c.tree.view_is in
    ap (λ m. c.args.first + length m) (sym (level-at c.args.level t.levels l is))

pub returns-clause-few : goal.returns-clause-few
returns-clause-few c =
    let t = c.args.tree.now in
    let l = c.level.result.now in
    let shape : IsShape t.levels = subst (λ u. IsShape u.levels) c.tree.view_is c.level.ensures.shape in
    let is : Some l ≡ slice_get t.levels c.args.level = c.level.ensures.widths ∙ ap (λ u. slice_get u.levels c.args.level) c.tree.view_is in
    let few = level-few c.args.level t.levels l shape is in
    omega (arith, few)
