use Rattle.std.proofs.Common.{sym, arith}
use Rattle.std.proofs.lemmas.Bool.Decides.{nat_tests}
use Rattle.schedule_log.proofs.Behind.{nothing_held, first_line_ends}
use Rattle.schedule_log.proofs.reading.to_hold.Goals as goal

pub returns-then-is_empty-clause-ends : goal.returns-then-is_empty-clause-ends
returns-then-is_empty-clause-ends c = λ h. nothing_held c.args.held.now (grind (arith, nat_tests))

pub returns-in-Some-clause-ends : goal.returns-in-Some-clause-ends
returns-in-Some-clause-ends c = λ h. first_line_ends c.args.held.now c.args.piece.now c.in-Some.place (sym c.in-Some.ensures)
