-- Of `ddm_types`, what this crate and those above it name.
pub use Rattle.inspector.specs.DdmTypes.ItemTable
