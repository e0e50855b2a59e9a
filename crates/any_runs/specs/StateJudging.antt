-- Of `state_judging`, what this crate and those above it name.
pub use Rattle.any_machine.specs.StateJudging.Judged
