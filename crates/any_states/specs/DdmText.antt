-- Of `ddm_text`, what this crate and those above it name.
pub use Rattle.any_runs.specs.DdmText.Adds
