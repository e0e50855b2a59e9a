use Rattle.std.proofs.Common.{◌≡◌, ◌+◌, ◌≤◌, length, vec_capacity}
use Rattle.tree_model.specs.State.Shape.{tree_counts}
use Rattle.recording.specs.Runs.{AreHalted}
use Rattle.recording.proofs.UnderWay.{IsUnderWay}
use Rattle.recording.proofs.recording.record_turns.Given as goal

abbrev pub invariant-recording : goal.invariant-recording
invariant-recording g l = record {
  run : IsUnderWay l.fn.most l.fn.draws.left l.fn.machine l.fn.turns.items l.machine l.turns.items l.progress l.draws.left;
  halted : AreHalted l.flags l.all l.machine.machine;
  leaves : (tree_counts l.machine.machine).leaves ≡ (tree_counts l.fn.machine.machine).leaves;
  shape : l.draws.shape ≡ l.fn.draws.shape;
  room : length l.turns.items + l.progress.left ≤ vec_capacity l.turns;
}

abbrev pub decreases-recording : goal.decreases-recording
decreases-recording g l = l.progress.draws
