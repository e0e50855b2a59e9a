-- Of `split_bus`, what this crate and those above it name.
pub use Rattle.ddm_tree.specs.SplitBus.Outcomes
