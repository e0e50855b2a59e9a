-- Of `ddm_tree`, what this crate and those above it name.
pub use Rattle.outcomes.proofs.DdmTree.RulesKept
