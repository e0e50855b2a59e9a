-- Of `state_judging`, what this crate and those above it name.
pub use Rattle.spelling_laws.proofs.StateJudging.Judging
pub use Rattle.spelling_laws.proofs.StateJudging.MachineRead
pub use Rattle.spelling_laws.proofs.StateJudging.Started
