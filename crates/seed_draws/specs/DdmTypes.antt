-- Of `ddm_types`, what this crate and those above it name.
pub use Rattle.schedule_log.specs.DdmTypes.declared
