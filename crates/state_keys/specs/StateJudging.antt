-- Of `state_judging`, what this crate and those above it name.
pub use Rattle.spelling_laws.specs.StateJudging.Read
