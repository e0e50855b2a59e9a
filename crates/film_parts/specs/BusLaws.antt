-- Of `bus_laws`, what crates above this one name.
pub use Rattle.value_laws.specs.BusLaws.IsTree
