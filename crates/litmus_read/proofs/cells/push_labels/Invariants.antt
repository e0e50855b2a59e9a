use Rattle.std.proofs.Common.{◌≡◌, ℕ, length}
use Rattle.litmus_text.specs.Reads.{behind}
use Rattle.litmus_read.specs.Cells.{cell_placed}
use Rattle.litmus_read.specs.Kept.{IsKept}
use Rattle.litmus_read.proofs.cells.push_labels.Given as goal

-- the labels so far and what is left are the whole cell
abbrev pub invariant-labels : goal.invariant-labels
invariant-labels l =
    (behind l.fn.steps.items (cell_placed l.cell.thread l.cell.line l.tokens) ≡ behind l.steps.items (cell_placed l.cell.thread l.cell.line l.left))
    × ((before thread : ℕ) → IsKept before thread l.fn.steps.items → IsKept before thread l.steps.items)

abbrev pub decreases-labels : goal.decreases-labels
decreases-labels l = length l.left
