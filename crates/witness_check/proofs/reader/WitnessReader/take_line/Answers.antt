use Rattle.std.proofs.Common.{true, refl}
use Rattle.witness_check.proofs.Parts.{line_here}
use Rattle.witness_check.proofs.ReaderSteps.{at_start}
use Rattle.witness_check.proofs.reader.WitnessReader.take_line.Goals as goal

pub returns-then-is_none : goal.returns-then-is_none
returns-then-is_none c =
    let start =
    at_start c.self.inside.refusal c.self.inside.judge.program c.self.inside.size c.self.inside.made c.self.inside.len c.self.inside.judge.machine c.self.inside.line c.args.self.now true c.self.view_is c.if-self-eq0.true
    c.if-self-lt-MOST_LINES.true c.if-is_none.ensures refl in
    line_here c.args.line.now c.args.self.now c.end_line.new.self start.0 start.1 start.2 start.3 c.requires c.if-line-le-MOST_BYTES.true (c.end_line.ensures start.0 start.1 _ start.2)
