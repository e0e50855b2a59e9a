-- Of `bus_laws`, what this crate and those above it name.
pub use Rattle.serving.specs.BusLaws.IsTree
