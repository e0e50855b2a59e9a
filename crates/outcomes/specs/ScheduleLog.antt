-- Of `schedule_log`, what this crate and those above it name.
pub use Rattle.schedule_log.specs.Pieces
pub use Rattle.schedule_log.specs.Reader
pub use Rattle.schedule_log.specs.Seeding
pub use Rattle.schedule_log.specs.Shapes
pub use Rattle.schedule_log.specs.declared
