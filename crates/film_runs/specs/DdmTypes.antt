-- Of `ddm_types`, what this crate and those above it name.
pub use Rattle.film.specs.DdmTypes.ItemTable
pub use Rattle.film.specs.DdmTypes.declared
