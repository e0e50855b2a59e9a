-- Of `bus_judging`, what this crate and those above it name.
pub use Rattle.leaf_protocol.specs.BusJudging.Children
