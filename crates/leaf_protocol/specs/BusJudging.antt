-- Of `bus_judging`, what this crate and those above it name.
pub use Rattle.bus_judging.specs.Children
