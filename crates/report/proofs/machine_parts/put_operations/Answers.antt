use Rattle.std.proofs.Common.{◌≡◌, ◌<◌, ◌+◌, length, ap, ◌∙◌, arith, length-append}
use Rattle.text_model.specs.Report.{op_line, op_lines}
use Rattle.report.proofs.ReportParts.{one-more, operation-some}
use Rattle.report.proofs.machine_parts.put_operations.Goals as goal

pub operations-preserved : goal.operations-preserved
unfolding op_lines
operations-preserved c =
    let inside : c.operations.next < length c.args.ops.now = omega (arith, c.operations-test.true) in
    let put = c.put_operation.ensures in
    let longer : length c.put_operation.new.line ≡ length c.operations.line + length (op_line c.args.depth c.get.result) = ap length put ∙ length-append c.operations.line (op_line c.args.depth c.get.result) in
    let some = operation-some c.args.depth c.get.result in
    record {
      from = omega arith;
      within = omega (arith, inside);
      lines = one-more (op_line c.args.depth) c.args.ops.now c.operations.next _ _ c.operations.line c.put_operation.new.line inside (c.get.ensures _) c.operations.invariant.lines put;
      some = λ rest. omega (arith, longer, some);
    }
