-- Of `state_judging`, what this crate and those above it name.
pub use Rattle.state_judging.proofs.Judging
pub use Rattle.state_judging.proofs.MachineRead
pub use Rattle.state_judging.proofs.Started
