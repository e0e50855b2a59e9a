use Rattle.std.proofs.Common.{◌≡◌, ℕ, drop}
use Rattle.litmus_model.specs.Program.{row_steps}
use Rattle.litmus_text.specs.Reads.{behind}
use Rattle.litmus_read.specs.Kept.{IsKept}
use Rattle.litmus_read.proofs.rows.push_cells.Given as goal

abbrev pub invariant-loop-thread : goal.invariant-loop-thread
invariant-loop-thread l =
    (behind l.fn.steps.items (row_steps l.line 0 l.cells) ≡ behind l.steps.items (row_steps l.line l.thread (drop l.thread l.cells)))
    × ((before : ℕ) → IsKept before 0 l.fn.steps.items → IsKept before l.thread l.steps.items)
