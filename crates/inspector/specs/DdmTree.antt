-- Of `ddm_tree`, what this crate and those above it name.
pub use Rattle.start_parts.specs.DdmTree.Copying
pub use Rattle.start_parts.specs.DdmTree.Holders
pub use Rattle.start_parts.specs.DdmTree.Machine
pub use Rattle.start_parts.specs.DdmTree.Path
pub use Rattle.start_parts.specs.DdmTree.Quiet
pub use Rattle.start_parts.specs.DdmTree.Reads
pub use Rattle.start_parts.specs.DdmTree.Rules
pub use Rattle.start_parts.specs.DdmTree.Written
