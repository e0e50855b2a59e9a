use Rattle.std.proofs.Common.{◌≡◌, drop}
use Rattle.litmus_model.specs.Program.{rows_steps}
use Rattle.litmus_text.specs.Reads.{behind}
use Rattle.litmus_read.specs.Kept.{IsKept}
use Rattle.litmus_read.proofs.rows.read_rows.Given as goal

abbrev pub invariant-loop-row : goal.invariant-loop-row
invariant-loop-row l =
    (rows_steps l.threads l.rows ≡ behind l.steps.items (rows_steps l.threads (drop l.row-index l.rows)))
    × IsKept l.row-index 0 l.steps.items
