-- Of `split_bus`, what this crate and those above it name.
pub use Rattle.cluster.specs.SplitBus.Outcomes
