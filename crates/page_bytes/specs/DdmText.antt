-- Of `ddm_text`, what this crate names.
pub use Rattle.ddm_text.specs.Adds
