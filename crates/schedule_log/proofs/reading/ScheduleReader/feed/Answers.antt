use Rattle.std.proofs.Common.{refl, arith}
use Rattle.std.proofs.lemmas.Bool.Decides.{nat_tests}
use Rattle.schedule_log.specs.Shapes.{shape_view}
use Rattle.schedule_log.proofs.Readers.{end_again, end_refused, refused_again}
use Rattle.schedule_log.proofs.reading.ScheduleReader.feed.Goals as goal

pub returns-in-AtEnd : goal.returns-in-AtEnd
returns-in-AtEnd c = end_again (shape_view c.args.shape.now) c.self.inside.lines c.self.inside.made c.self.inside.standing c.self.inside.held.items c.args.piece.now c.args.self.now c.args.turns.now.items c.in-AtEnd.is c.self.view_is (grind (arith, nat_tests))

pub returns-in-AtEnd-2 : goal.returns-in-AtEnd-2
returns-in-AtEnd-2 c = (end_refused (shape_view c.args.shape.now) c.self.inside.lines c.self.inside.made c.self.inside.standing c.self.inside.held.items c.args.piece.now c.args.self.now c.args.turns.now.items c.in-AtEnd.is c.self.view_is (grind (arith, nat_tests)), refl)

pub returns-in-Refused : goal.returns-in-Refused
returns-in-Refused c = refused_again (shape_view c.args.shape.now) c.self.inside.lines c.self.inside.made c.in-Refused.line c.in-Refused.refusal c.self.inside.standing c.self.inside.held.items c.args.piece.now c.args.self.now c.args.turns.now.items c.in-Refused.is c.self.view_is
