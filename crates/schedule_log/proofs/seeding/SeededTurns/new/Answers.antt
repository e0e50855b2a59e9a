use Rattle.std.proofs.Common.{◌∙◌, arith}
use Rattle.schedule_log.specs.Draws.{widths_drawn}
use Rattle.schedule_log.specs.Shapes.{shape_view}
use Rattle.schedule_log.proofs.SeedTurns.{none_begun}
use Rattle.schedule_log.proofs.seeding.SeededTurns.new.Goals as goal

pub returns : goal.returns
returns c = none_begun (shape_view c.args.shape.now) c.new-3.result (widths_drawn c.in_ok-draws.draws) c.new-2.result (c.new-3.ensures ∙ c.harts.ensures.leaves) c.in_ok-draws.ensures.widths

pub invariant_of-result : goal.invariant_of-result
invariant_of-result c = (omega (arith, c.new-3.ensures, c.harts.ensures.some), c.in_ok-draws.ensures.some)
