use Rattle.std.proofs.Common.{◌<◌, length, arith}
use Rattle.text_model.specs.Report.{put_text_by, put_texts}
use Rattle.report.proofs.ReportParts.{one-more}
use Rattle.report.proofs.machine_parts.put_output.Goals as goal

pub output-preserved : goal.output-preserved
unfolding put_texts
output-preserved c =
    let inside : c.output.next < length c.args.ops.now.items = omega (arith, c.output-test.true, c.len.ensures) in
    record {
      within = omega (arith, inside);
      output = one-more (put_text_by c.args.hart) c.args.ops.now.items c.output.next _ _ c.output.line c.push_put_by.new.out inside (c.get.ensures _) c.output.invariant.output c.in-Ok.ensures.text.is;
      room = omega (arith, c.in-Ok.ensures.room, c.if-len-lt-LONG_LINE.true, c.len-in-output.ensures.length);
    }
