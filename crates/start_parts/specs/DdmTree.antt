-- Of `ddm_tree`, what this crate and those above it name.
pub use Rattle.cluster.specs.DdmTree.Copying
pub use Rattle.cluster.specs.DdmTree.Holders
pub use Rattle.cluster.specs.DdmTree.Machine
pub use Rattle.cluster.specs.DdmTree.Path
pub use Rattle.cluster.specs.DdmTree.Quiet
pub use Rattle.cluster.specs.DdmTree.Reads
pub use Rattle.cluster.specs.DdmTree.Rules
pub use Rattle.cluster.specs.DdmTree.Written
