-- Of `ddm_tree`, what this crate and those above it name.
pub use Rattle.outcomes.specs.DdmTree.Machine
pub use Rattle.outcomes.specs.DdmTree.Rules
