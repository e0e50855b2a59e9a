-- Of `inspector`, what crates above this one name.
pub use Rattle.any_runs.proofs.InspectorCrate.OneMore
