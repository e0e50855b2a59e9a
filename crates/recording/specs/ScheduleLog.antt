-- Of `schedule_log`, what crates above this one name.
pub use Rattle.schedule_log.specs.Shapes
