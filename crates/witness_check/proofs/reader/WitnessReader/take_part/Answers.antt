use Rattle.std.proofs.Common.{◌+◌, length, take, sym, ◌∙◌, arith}
use Rattle.std.proofs.lemmas.Bool.Decides.{nat_tests}
use Rattle.std.proofs.lemmas.List.{length-take-le}
use Rattle.witness_check.proofs.Parts.{part_after_refusal, part_put, part_too_late, part_too_long}
use Rattle.witness_check.proofs.reader.WitnessReader.take_part.Goals as goal

pub returns-then-is_some : goal.returns-then-is_some
returns-then-is_some c = part_after_refusal c.self.inside.judge.program c.self.inside.size c.self.inside.made c.self.inside.judge.machine (take c.self.inside.len c.self.inside.line) c.args.part.now c.args.self.now c.self.inside.refusal c.self.view_is (sym c.is_some.ensures ∙ c.if-is_some.true)

pub returns-then-self-ge-MOST_LINES : goal.returns-then-self-ge-MOST_LINES
returns-then-self-ge-MOST_LINES c = part_too_late c.self.inside.judge.program c.self.inside.size c.self.inside.made c.self.inside.judge.machine (take c.self.inside.len c.self.inside.line) c.args.part.now c.args.self.now c.self.inside.refusal c.self.view_is (sym c.is_some.ensures ∙ c.if-is_some.false) (grind (arith, nat_tests, c.if-self-ge-MOST_LINES.true)) c.is_empty.result c.is_empty.ensures c.if-is_empty.false

pub returns-then-part-self : goal.returns-then-part-self
returns-then-part-self c =
    let size = length-take-le c.self.inside.len c.self.inside.line (omega arith) in
    part_too_long c.self.inside.judge.program c.self.inside.size c.self.inside.made c.self.inside.judge.machine (take c.self.inside.len c.self.inside.line) c.args.part.now c.args.self.now c.self.inside.refusal c.self.view_is (sym c.is_some.ensures ∙ c.if-is_some.false) (omega (arith, c.if-self-ge-MOST_LINES.false)) c.requires (omega (arith, size, c.self.invariant.line)) (omega (arith, size, c.if-part-self.true))

pub returns-else-part-self : goal.returns-else-part-self
returns-else-part-self c =
    let size = length-take-le c.self.inside.len c.self.inside.line (omega arith) in
    part_put c.self.inside.judge.program c.self.inside.size c.self.inside.made c.self.inside.judge.machine (take c.self.inside.len c.self.inside.line) c.args.part.now c.args.self.now c.self.inside.refusal (take (c.self.inside.len + length c.args.part.now) c.put_part.new.line) c.self.view_is (sym c.is_some.ensures ∙ c.if-is_some.false) (omega (arith, c.if-self-ge-MOST_LINES.false)) c.requires (omega (arith, size, c.if-part-self.false)) c.put_part.ensures
