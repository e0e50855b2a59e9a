-- Of `busy_laws`, what this crate and those above it name.
pub use Rattle.leaf_protocol.proofs.BusyLaws.Turns
