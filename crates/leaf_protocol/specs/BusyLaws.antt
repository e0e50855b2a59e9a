-- Of `busy_laws`, what this crate and those above it name.
pub use Rattle.lr_sc_laws.specs.BusyLaws.Reasons
