-- Of `ddm_tree`, what this crate and those above it name.
pub use Rattle.any_runs.specs.DdmTree.Machine
pub use Rattle.any_runs.specs.DdmTree.Reads
pub use Rattle.any_runs.specs.DdmTree.Rules
pub use Rattle.any_runs.specs.DdmTree.Written
