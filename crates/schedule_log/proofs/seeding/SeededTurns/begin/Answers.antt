use Rattle.std.proofs.Common.{◌<◌, length, ap, arith}
use Rattle.schedule_log.specs.Draws.{widths_drawn}
use Rattle.schedule_log.specs.Seeding.{SeededView}
use Rattle.schedule_log.proofs.Seeds.{left_counted}
use Rattle.schedule_log.proofs.SeedTurns.{begun, begun_known}
use Rattle.schedule_log.proofs.seeding.SeededTurns.begin.Goals as goal

pub returns-clause-turns : goal.returns-clause-turns
returns-clause-turns c =
    begun _ c.new-self-inside.result c.args.seed c.args.turns c.args.self.now c.new-self-inside.ensures (ap (λ (v : SeededView). v.shape) c.self.view_is)

pub returns-clause-known : goal.returns-clause-known
returns-clause-known c =
    let harts : 0 < c.self.inside.harts = omega (arith, c.self.invariant.0) in
    let buses : 0 < length (widths_drawn c.self.inside.draws) = omega (arith, c.self.invariant.1) in
    begun_known _ c.new-self-inside.result c.args.seed c.args.turns c.args.self.now c.new-self-inside.ensures (ap (λ (v : SeededView). v.shape) c.self.view_is) harts buses

pub returns-clause-count : goal.returns-clause-count
returns-clause-count c = left_counted _ c.new-self-inside.result c.args.turns
