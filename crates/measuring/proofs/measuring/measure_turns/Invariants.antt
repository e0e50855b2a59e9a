use Rattle.std.proofs.Common.{◌≤◌}
use Rattle.recording.specs.Runs.{AreHalted}
use Rattle.measuring.specs.Kept.{tally_of}
use Rattle.measuring.proofs.UnderWay.{IsMeasuring}
use Rattle.measuring.proofs.measuring.measure_turns.Given as goal

abbrev pub invariant-measuring : goal.invariant-measuring
invariant-measuring g l = record {
  run : IsMeasuring l.fn.most l.fn.draws.left l.fn.machine l.machine l.progress l.draws.left (tally_of l.tally);
  halted : AreHalted l.flags l.all l.machine.machine;
  room : l.room ≤ l.machine.spare;
}

abbrev pub decreases-measuring : goal.decreases-measuring
decreases-measuring g l = l.progress.draws
