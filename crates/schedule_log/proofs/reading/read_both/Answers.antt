use Rattle.std.proofs.Common.{arith}
use Rattle.std.proofs.lemmas.Bool.Decides.{nat_tests}
use Rattle.schedule_log.proofs.Behind.{lines_both, lines_refused, lines_ended}
use Rattle.schedule_log.proofs.reading.read_both.Goals as goal

pub returns-in_ok-back-in-InLine-clause-ok : goal.returns-in_ok-back-in-InLine-clause-ok
returns-in_ok-back-in-InLine-clause-ok c =
    lines_both c.args.seen.now c.args.first_lines c.args.first c.args.held.now c.args.behind.now c.args.turns.now.items c.read_lines-2.new.turns.items c.read_lines-in-InLine.new.turns.items c.in_ok-front.front c.in_ok-back-in-InLine.back
    c.in_ok-front.ensures.ok (c.requires.ends (grind (arith, nat_tests))) c.in-InLine.is (rw (← c.in_ok-front.ensures.same) c.in_ok-back-in-InLine.ensures.ok)

pub returns-in-AtEnd-clause-ok : goal.returns-in-AtEnd-clause-ok
returns-in-AtEnd-clause-ok c =
    lines_ended c.args.seen.now c.args.first_lines c.args.first c.args.held.now c.args.behind.now c.args.turns.now.items c.read_lines-2.new.turns.items c.in_ok-front.front c.in_ok-front.ensures.ok c.in-AtEnd.is (grind (arith, nat_tests))

pub returns-in-Refused-clause-ok : goal.returns-in-Refused-clause-ok
returns-in-Refused-clause-ok c =
    lines_refused c.args.seen.now c.args.first_lines c.args.first c.args.held.now c.args.behind.now c.args.turns.now.items c.read_lines-2.new.turns.items c.in_ok-front.front c.in-Refused.field-0 c.in-Refused.field-1 c.in_ok-front.ensures.ok c.in-Refused.is
