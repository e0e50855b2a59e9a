use Rattle.std.proofs.Common.{◌≤◌, ◌-◌, length, map, take}
use Rattle.ddm_cli.specs.ReportCrate.Appends.{Appends}
use Rattle.ddm_cli.specs.TextModel.Faults.{shown_byte}
use Rattle.ddm_cli.proofs.unknown_key.tell_key.Given as goal

abbrev pub invariant-telling : goal.invariant-telling
invariant-telling g l = record {
  within : l.at ≤ length l.bytes;
  written : Appends (g.K.Sink.held l.initial.faults_out) (g.K.Sink.held l.faults_out) (map shown_byte (take l.at l.bytes));
  later : g.K.Sink.faults l.initial.faults_out ≤ g.K.Sink.faults l.faults_out;
}

abbrev pub decreases-telling : goal.decreases-telling
decreases-telling g l = length l.bytes - l.at
