use Rattle.std.proofs.Common.{◌≡◌, ◌++◌, List, drop, sym, subst, arith}
use Rattle.std.specs.Prelude.{codes}
use Rattle.report.specs.DdmTypes.declared.operations.Op.{Op}
use Rattle.text_model.specs.Report.{put_texts}
use Rattle.report.specs.LineParts.{dash_behind}
use Rattle.report.specs.ReportLeft.{Gives}
use Rattle.report.specs.declared.report_parts.ReportPart.{ReportPart}
use Rattle.report.specs.declared.report_parts.ReportPart.TheVariants.{Output}
use Rattle.report.proofs.Lines.{output-last}
use Rattle.report.proofs.ReportParts.{output-ends, silence-ends}
use Rattle.report.proofs.report_pieces.put_output_part.Goals as goal

pub returns-then-size : goal.returns-then-size
returns-then-size c v same shows there =
    subst (λ (next : ReportPart). Gives v (Output c.args.hart c.args.from) c.put_silence.new.line next) (sym c.hart_part.ensures)
    (silence-ends v c.args.size shows c.args.hart c.args.from c.put_silence.new.line c.if-size.true there c.put_silence.ensures)

pub end_output-requires-clause-output : goal.end_output-requires-clause-output
end_output-requires-clause-output c = output-last c.args.hart c.args.from c.put_output-next.result c.args.ops.now.items _ (omega (arith, c.if-next-len.false, c.len.ensures)) c.put_output-next.ensures.output

pub returns : goal.returns
returns c v same shows there =
    let put = c.put_output-next.new.line in
    let ended = c.end_output.new.line in
    let last : put_texts c.args.hart (drop c.args.from c.args.ops.now.items) ≡ put = output-last c.args.hart c.args.from c.put_output-next.result c.args.ops.now.items put (omega (arith, c.if-next-len.false, c.len.ensures)) c.put_output-next.ensures.output in
    subst (λ (next : ReportPart). Gives v (Output c.args.hart c.args.from) ended next) (sym c.hart_part-2.ensures)
    (output-ends v c.args.size shows c.args.hart c.args.from put ended there
    (subst (λ (os : List Op). put_texts c.args.hart (drop c.args.from os) ≡ put) (sym same) last)
    (subst (λ (os : List Op). ended ≡ put ++ dash_behind (put_texts c.args.hart os) ++ codes "\n") (sym same) c.end_output.ensures))
