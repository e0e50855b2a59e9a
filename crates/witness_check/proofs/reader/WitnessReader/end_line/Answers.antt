use Rattle.std.proofs.Common.{take, refl}
use Rattle.witness_check.proofs.ReaderSteps.{line_legal_at, line_not_legal_at}
use Rattle.witness_check.proofs.reader.WitnessReader.end_line.Goals as goal

pub returns-then-step : goal.returns-then-step
returns-then-step c =
    line_legal_at c.self.inside.refusal c.self.inside.judge.program c.step.new.self.program c.self.inside.size c.self.inside.made c.self.inside.judge.machine c.step.new.self.machine c.args.line.now
    (take c.self.inside.len c.self.inside.line) _ c.in-Some.op c.args.self.now c.self.view_is c.requires c.in-Some.ensures c.if-step.ensures.step c.step.ensures.program refl

pub returns-else-step : goal.returns-else-step
returns-else-step c =
    line_not_legal_at c.self.inside.refusal c.self.inside.judge.program c.step.new.self.program c.self.inside.size c.self.inside.made c.self.inside.judge.machine c.step.new.self.machine c.args.line.now
    (take c.self.inside.len c.self.inside.line) c.in-Some.op c.args.self.now c.self.view_is c.requires c.in-Some.ensures c.if-step.ensures.step c.step.ensures.program
