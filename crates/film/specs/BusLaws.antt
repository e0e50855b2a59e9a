-- Of `bus_laws`, what crates above this one name.
pub use Rattle.film_parts.specs.BusLaws.IsTree
