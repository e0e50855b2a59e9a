-- Of `inspector`, what this crate and those above it name.
pub use Rattle.measuring.proofs.InspectorCrate.OneMore
