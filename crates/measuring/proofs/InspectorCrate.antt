-- Of `inspector`, what crates above this one name.
pub use Rattle.recording.proofs.InspectorCrate.OneMore
