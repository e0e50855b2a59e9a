-- Of `rv_decode`, what this crate and those above it name.
pub use Rattle.bus_laws.specs.RvDecode.Table
pub use Rattle.bus_laws.specs.RvDecode.declared
