-- Of `ddm_types`, what this crate and those above it name.
pub use Rattle.rv_flat.specs.DdmTypes.ItemTable
