-- Of `schedule_log`, what this crate and those above it name.
pub use Rattle.schedule_log.proofs.SeedTurns
