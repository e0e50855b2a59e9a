-- Of `search_laws`, what crates above this one name.
pub use Rattle.search_laws.specs.Search
