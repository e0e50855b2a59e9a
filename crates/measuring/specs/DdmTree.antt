-- Of `ddm_tree`, what crates above this one name.
pub use Rattle.recording.specs.DdmTree.Machine
pub use Rattle.recording.specs.DdmTree.Reads
pub use Rattle.recording.specs.DdmTree.Rules
