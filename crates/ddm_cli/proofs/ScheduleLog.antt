-- Of `schedule_log`, what this crate and those above it name.
pub use Rattle.outcomes.proofs.ScheduleLog.Cuts
pub use Rattle.outcomes.proofs.ScheduleLog.Cuttings
