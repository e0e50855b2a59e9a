-- Of `ddm_types`, what this crate and those above it name.
pub use Rattle.any_runs.specs.DdmTypes.ItemTable
pub use Rattle.film_parts.specs.DdmTypes.declared
