use Rattle.schedule_log.proofs.Draws.{by_half}
use Rattle.schedule_log.proofs.seeding.both_turns.Goals as goal

pub returns : goal.returns
returns g c t =
    by_half (record { harts = c.args.harts.now; buses = g.D.BusDraws.widths c.args.draws.now }) c.args.a c.args.b c.divide-victim.result.1 c.divide-victim.result.0 c.draw.result.now t
    c.divide-victim.ensures.remainder c.divide-victim.ensures.quotient (c.draw.ensures c.args.harts.now)
