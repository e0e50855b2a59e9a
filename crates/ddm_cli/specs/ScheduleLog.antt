-- Of `schedule_log`, what this crate and those above it name.
pub use Rattle.outcomes.specs.ScheduleLog.Pieces
pub use Rattle.outcomes.specs.ScheduleLog.Reader
pub use Rattle.outcomes.specs.ScheduleLog.Seeding
pub use Rattle.outcomes.specs.ScheduleLog.Shapes
pub use Rattle.outcomes.specs.ScheduleLog.declared
