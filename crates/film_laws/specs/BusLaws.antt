-- Of `bus_laws`, what this crate names.
pub use Rattle.value_laws.specs.BusLaws.IsTree
