use Rattle.std.proofs.Common.{sym, ◌∙◌}
use Rattle.schedule_log.proofs.FirstLines.{line_of, open_step, long_step}
use Rattle.schedule_log.proofs.steps.any_step.Goals as goal

pub step_of_line-requires-clause-line : goal.step_of_line-requires-clause-line
step_of_line-requires-clause-line c = line_of c.args.text.now c.in-Line.end (sym c.cut_line.ensures ∙ c.in-Line.is)

pub returns-in-LineTooLong : goal.returns-in-LineTooLong
returns-in-LineTooLong c = long_step c.args.parts.now c.args.lines c.args.made c.args.text.now (sym c.cut_line.ensures ∙ c.in-LineTooLong.is)

pub returns-in-NoEndOfLine : goal.returns-in-NoEndOfLine
returns-in-NoEndOfLine c = open_step c.args.parts.now c.args.lines c.args.made c.args.text.now (sym c.cut_line.ensures ∙ c.in-NoEndOfLine.is)
