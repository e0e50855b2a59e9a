use Rattle.std.proofs.Common.{List, drop, sym, ap, ◌∙◌}
use Rattle.std.proofs.lemmas.List.{take_rest}
use Rattle.litmus_model.specs.declared.parts.Token.{Token}
use Rattle.litmus_model.specs.declared.parts.PlacedStep.{PlacedStep}
use Rattle.litmus_text.specs.Reads.{behind}
use Rattle.litmus_read.specs.Cells.{cell_placed}
use Rattle.litmus_read.proofs.CellSteps.{label_next}
use Rattle.litmus_read.proofs.KeptSteps.{kept_label}
use Rattle.litmus_read.proofs.cells.push_labels.Goals as goal

pub labels-preserved : goal.labels-preserved
labels-preserved c =
    let thread = c.args.cell.thread in
    let line = c.args.cell.line in
    let left = c.labels.left.now in
    let whole =
    c.labels.invariant.0
    ∙ label_next c.labels.steps.items thread line left c.in-Some.label (sym c.in-Some.ensures.label)
    ∙ ap (λ (ss : List PlacedStep). behind ss (cell_placed thread line (drop 2 left))) (sym c.in_ok-push_step.ensures)
    ∙ ap (λ (ts : List Token). behind c.push_step.new.steps.items (cell_placed thread line ts)) (sym (take_rest left 2)) in (
      whole,
      λ before k kept. rw c.in_ok-push_step.ensures (kept_label before k thread line c.in-Some.label c.labels.steps.items (c.labels.invariant.1 before k kept)),
    )
