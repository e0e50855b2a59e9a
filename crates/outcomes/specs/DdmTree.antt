-- Of `ddm_tree`, what this crate and those above it name.
pub use Rattle.measuring.specs.DdmTree.Machine
pub use Rattle.measuring.specs.DdmTree.Reads
pub use Rattle.measuring.specs.DdmTree.Rules
