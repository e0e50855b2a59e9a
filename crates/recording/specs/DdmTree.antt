-- Of `ddm_tree`, what crates above this one name.
pub use Rattle.any_runs.specs.DdmTree.Machine
pub use Rattle.any_runs.specs.DdmTree.Reads
pub use Rattle.any_runs.specs.DdmTree.Rules
