use Rattle.std.proofs.Common.{◌≡◌, ◌<◌, List, length, sym, ◌∙◌, arith, subst}
use Rattle.std.proofs.lemmas.Bool.Decides.{nat_tests}
use Rattle.std.proofs.lemmas.List.{take_rest}
use Rattle.litmus_model.specs.declared.parts.Step.{Step}
use Rattle.litmus_model.specs.Refusing.{Judged}
use Rattle.litmus_text.specs.Reads.{Adds}
use Rattle.litmus_read.specs.Cells.{cell_placed, placed_steps}
use Rattle.litmus_read.proofs.CellSteps.{adds_behind, cell_left, nothing_left}
use Rattle.litmus_read.proofs.KeptSteps.{kept_behind, kept_nothing}
use Rattle.litmus_read.proofs.cells.read_cell.Goals as goal

pub returns-then-is_empty-clause-steps : goal.returns-then-is_empty-clause-steps
returns-then-is_empty-clause-steps c =
    let none : length c.in_ok-left.left.now ≡ 0 = grind (arith, nat_tests) in
    c.in_ok-left.ensures.steps ∙ nothing_left c.push_labels.new.steps.items c.args.cell.thread c.args.cell.line c.in_ok-left.left.now none

pub returns-clause-steps : goal.returns-clause-steps
returns-clause-steps c =
    let thread = c.args.cell.thread in
    let line = c.args.cell.line in
    let left = c.in_ok-left.left.now in
    let mid = c.push_labels.new.steps.items in
    let new = c.push_instruction.new.steps.items in
    let some : 0 < length c.in_ok-left.left.now = grind (arith, nat_tests) in
    let same = cell_left line left c.index-left-0.result _ some (take_rest left 1) c.in_ok-left.ensures.labels in
    adds_behind c.args.steps.now.items mid new (cell_placed thread line c.args.tokens.now) (cell_placed thread line left) c.push_instruction.result c.in_ok-left.ensures.steps
    (subst (λ (j : Judged (List Step)). Adds (placed_steps thread line j) mid new c.push_instruction.result) (sym same) c.push_instruction.ensures.steps)

pub returns-then-is_empty-clause-kept : goal.returns-then-is_empty-clause-kept
returns-then-is_empty-clause-kept c = λ before kept. kept_nothing before c.args.cell.thread c.push_labels.new.steps.items (c.in_ok-left.ensures.kept before c.args.cell.thread kept)

pub returns-clause-kept : goal.returns-clause-kept
returns-clause-kept c =
    kept_behind c.push_instruction.result c.args.cell.thread c.args.steps.now.items c.push_labels.new.steps.items c.push_instruction.new.steps.items c.in_ok-left.ensures.kept c.push_instruction.ensures.kept
