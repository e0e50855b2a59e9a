use Rattle.std.proofs.Common.{◌++◌, refl, rules}
use Rattle.schedule_log.specs.Shapes.{shape_view}
use Rattle.schedule_log.proofs.Readers.{lines_fed}
use Rattle.schedule_log.proofs.reading.ScheduleReader.feed_lines.Goals as goal

pub returns-in-Ok : goal.returns-in-Ok
returns-in-Ok c =
    lines_fed (shape_view c.args.shape.now) c.self.inside.lines c.self.inside.made c.self.inside.standing c.self.inside.held.items c.args.piece.now (c.self.inside.held.items ++ c.args.piece.now) c.read_piece.new.held.items c.args.self.now _ _ c.in-Ok.lines c.answer.result
    c.requires c.self.view_is refl (search rules) (search rules) (c.answer.ensures c.in-Ok.lines.lines)
