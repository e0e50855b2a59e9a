use Rattle.std.specs.List.{AllWithin}
use Rattle.text_model.specs.Schedule.{ShapeView}
use Rattle.schedule_log.specs.Seen.{IsSeenAt}
use Rattle.schedule_log.proofs.seen.forget.Given as goal

abbrev pub invariant-loop-place : goal.invariant-loop-place
invariant-loop-place l = (shape : ShapeView) → AllWithin (IsSeenAt shape) l.places 0 l.place
