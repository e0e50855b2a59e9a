use Rattle.std.proofs.Common.{sym, subst}
use Rattle.schedule_log.specs.Seen.{IsFrontOf}
use Rattle.schedule_log.proofs.SeenLines.{seen-step}
use Rattle.schedule_log.proofs.steps.remembered.Goals as goal

pub returns-clause-turn : goal.returns-clause-turn
returns-clause-turn c = λ shape all lines made room.
    let line = c.in_ok-line.line.now in
    let there = subst (IsFrontOf c.args.text.now) (sym c.in_ok-line.ensures.front) c.of-front.ensures.front in
    rw c.used.ensures (rw (sym c.in_ok-line.ensures.front) (seen-step shape lines made c.args.text.now line.turn line.front.used room (c.in_ok-line.ensures.seen shape all c.args.text.now there)))
