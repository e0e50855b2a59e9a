use Rattle.std.proofs.Common.{◌≡◌, ◌<◌, ◌≤◌, ◌-◌, ◌++◌, length, drop}
use Rattle.text_model.specs.Report.{op_lines}
use Rattle.report.proofs.machine_parts.put_operations.Given as goal

abbrev pub invariant-operations : goal.invariant-operations
invariant-operations l = record {
  from : l.from ≤ l.next;
  within : l.next ≤ length l.ops;
  lines : op_lines l.depth (drop l.from l.ops) ≡ l.line ++ op_lines l.depth (drop l.next l.ops);
  some : l.from < l.next → 0 < length l.line;
}

abbrev pub decreases-operations : goal.decreases-operations
decreases-operations l = length l.ops - l.next
