-- Of `inspector`, what this crate and those above it name.
pub use Rattle.inspector.proofs.LeafStates
pub use Rattle.inspector.proofs.OneMore
