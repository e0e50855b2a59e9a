-- Of `busy_laws`, what this crate and those above it name.
pub use Rattle.busy_laws.proofs.Turns
