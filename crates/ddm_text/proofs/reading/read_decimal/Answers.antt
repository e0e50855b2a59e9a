use Rattle.std.proofs.Common.{Err, ◌∙◌, arith}
use Rattle.ddm_text.specs.declared.reading.NumberRefusal.TheVariants.{NotANumber}
use Rattle.ddm_text.proofs.Spellings.{number_of-stopped, number_of-whole, spelled-answer, answer-spelled}
use Rattle.ddm_text.proofs.reading.read_decimal.Goals as goal

pub returns-in-Some-clause-read : goal.returns-in-Some-clause-read
returns-in-Some-clause-read c n within spelled =
    answer-spelled c.args.bytes.now c.args.most n (Err (NotANumber c.in-Some.place)) (omega arith) (number_of-stopped c.args.bytes.now c.args.most c.in-Some.place c.in-Some.ensures) within spelled

pub returns-in-None-clause-spelled : goal.returns-in-None-clause-spelled
returns-in-None-clause-spelled c =
    spelled-answer c.args.bytes.now c.args.most c.value_at_most.result (omega arith) (c.value_at_most.ensures ∙ number_of-whole c.args.bytes.now c.args.most c.in-None.ensures)

pub returns-in-None-clause-read : goal.returns-in-None-clause-read
returns-in-None-clause-read c n within spelled =
    answer-spelled c.args.bytes.now c.args.most n c.value_at_most.result (omega arith) (c.value_at_most.ensures ∙ number_of-whole c.args.bytes.now c.args.most c.in-None.ensures) within spelled
