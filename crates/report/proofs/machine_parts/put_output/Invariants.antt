use Rattle.std.proofs.Common.{◌≡◌, ◌≤◌, ◌-◌, ◌++◌, length, drop}
use Rattle.text_model.specs.Report.{put_texts}
use Rattle.report.proofs.machine_parts.put_output.Given as goal

abbrev pub invariant-output : goal.invariant-output
invariant-output l = record {
  within : l.next ≤ length l.ops.items;
  output : put_texts l.hart (drop l.from l.ops.items) ≡ l.line ++ put_texts l.hart (drop l.next l.ops.items);
  room : length l.line ≤ 501;
}

abbrev pub decreases-output : goal.decreases-output
decreases-output l = length l.ops.items - l.next
