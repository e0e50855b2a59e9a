-- Of `ddm_tree`, what this crate and those above it name.
pub use Rattle.inspector.specs.DdmTree.Copying
pub use Rattle.inspector.specs.DdmTree.Holders
pub use Rattle.inspector.specs.DdmTree.Machine
pub use Rattle.inspector.specs.DdmTree.Quiet
pub use Rattle.inspector.specs.DdmTree.Reads
pub use Rattle.inspector.specs.DdmTree.Rules
pub use Rattle.inspector.specs.DdmTree.Written
