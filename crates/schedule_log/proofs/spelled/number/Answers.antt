use Rattle.std.proofs.Common.{◌+◌, ◌*◌, ◌<◌, arith}
use Rattle.schedule_log.proofs.Spellings.{one_digit, digit_more}
use Rattle.schedule_log.proofs.spelled.number.Goals as goal

pub returns-then-first-eq0-clause-begins : goal.returns-then-first-eq0-clause-begins
returns-then-first-eq0-clause-begins c = one_digit c.args.text.now c.in_ok-first.first c.in_ok-first.rest.now c.in_ok-first.ensures.begins

pub returns-in_default-clause-begins : goal.returns-in_default-clause-begins
returns-in_default-clause-begins c = one_digit c.args.text.now c.in_ok-first.first c.in_ok-first.rest.now c.in_ok-first.ensures.begins

pub returns-in-None-clause-begins : goal.returns-in-None-clause-begins
returns-in-None-clause-begins c =
    let first = c.in_ok-first in
    let one = one_digit c.args.text.now first.first first.rest.now first.ensures.begins in
    digit_more c.args.text.now first.first first.rest.now c.in-Some.second c.in-Some.more.now one (omega (arith, c.if-first-eq0.false)) (omega (arith, first.ensures.begins.few)) c.in-Some.ensures.begins

pub returns-in-Some-digit-clause-begins : goal.returns-in-Some-digit-clause-begins
returns-in-Some-digit-clause-begins c =
    let first = c.in_ok-first in
    let one = one_digit c.args.text.now first.first first.rest.now first.ensures.begins in
    let some : 0 < first.first = omega (arith, c.if-first-eq0.false) in
    let two = digit_more c.args.text.now first.first first.rest.now c.in-Some.second c.in-Some.more.now one some (omega (arith, first.ensures.begins.few)) c.in-Some.ensures.begins in
    digit_more c.args.text.now (first.first * 10 + c.in-Some.second) c.in-Some.more.now c.in-Some-digit.third c.in-Some-digit.last.now two (omega (arith, some)) (omega (arith, first.ensures.begins.few, c.in-Some.ensures.begins.few)) c.in-Some-digit.ensures.begins
